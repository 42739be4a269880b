use Rattle.std.proofs.Common.{◌≡◌, ◌∙◌, ◌&&◌, Bool, ◌+◌, ap, drop, false, get_or}
use Rattle.std.proofs.Common.{length, refl, sym, true, arith}
use Rattle.std.specs.List.{list_all}
use Rattle.clap.specs.Words.{found_of, rows_of}
use Rattle.clear_words.specs.Job.{is_well}
use Rattle.clear_words.specs.Options.{all_options}
use Rattle.clear_words.specs.declared.option.JobOption.TheVariants as option
use Rattle.std.proofs.lemmas.List.{at_drop_more}
use Rattle.clear_words.proofs.job.all_well.Goals.{After-is_welcome}
use Rattle.clear_words.proofs.job.all_well.Goals as goal

-- the test of the next option, with those of all after it, is the test of all
next : (c : After-is_welcome) (is : Bool) → is ≡ c.is_welcome.result
    → (is && list_all (is_well c.args.uses (rows_of (found_of c.args.matches.now)))
    (drop (c.loop-option.option-index + 1) all_options))
    ≡ list_all (is_well c.args.uses (rows_of (found_of c.args.matches.now))) all_options
next c is tells =
    let i = c.loop-option.option-index in
    let test = is_well c.args.uses (rows_of (found_of c.args.matches.now)) in
    let well : c.is_welcome.result ≡ test (get_or all_options i option.Banks) =
    rw (c.of.ensures, c.kind.ensures, c.value.ensures, c.name.ensures) at c.is_welcome.ensures in
    ap (λ b. b && list_all test (drop (i + 1) all_options)) (tells ∙ well)
    ∙ sym (at_drop_more (list_all test) all_options i option.Banks c.loop-option-test.true)
    ∙ c.loop-option.invariant

pub loop-option-init : goal.loop-option-init
loop-option-init c = refl

pub loop-option-preserved : goal.loop-option-preserved
loop-option-preserved c =
    next (goal.at.loop-option-preserved c).After-is_welcome true (sym c.if-not-is_welcome.false)

pub returns-then-not-is_welcome : goal.returns-then-not-is_welcome
returns-then-not-is_welcome c =
    next (goal.at.returns-then-not-is_welcome c).After-is_welcome false
    (sym c.if-not-is_welcome.true)

pub returns : goal.returns
returns c =
    let rows = rows_of (found_of c.args.matches.now) in
    let at_end : c.loop-option.option-index ≡ length all_options =
    omega (arith, c.loop-option.auto.option-index-end, c.loop-option-test.false) in
    sym (ap (λ i. list_all (is_well c.args.uses rows) (drop i all_options)) at_end)
    ∙ c.loop-option.invariant
