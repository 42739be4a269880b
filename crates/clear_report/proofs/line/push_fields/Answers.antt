use Rattle.std.proofs.Common.{refl}
use Rattle.clear_report.specs.Fields.{bytes_of}
use Rattle.clear_report.proofs.Lines.{next_field}
use Rattle.clear_report.proofs.line.push_fields.Goals as goal

pub loop-field-preserved : goal.loop-field-preserved
loop-field-preserved c =
    next_field c.args.text.now.items c.loop-field.text.items c.push_ended.new.text.items bytes_of c.args.fields.now
    c.loop-field.field-index _ _ c.loop-field-test.true refl c.loop-field.invariant c.in_ok-push_ended.ensures
