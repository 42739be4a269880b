use Rattle.std.proofs.Common.{◌≡◌, ◌∙◌, ap, drop, fold, sym}
use Rattle.std.proofs.Common.{◌+◌}
use Rattle.clap.specs.Words.{App, app_of, with_rule}
use Rattle.clear_words.specs.Command.{command, of_task, option_argument, with_option}
use Rattle.clear_words.specs.Options.{all_options}
use Rattle.clear_words.specs.declared.option.JobOption.TheVariants as option
use Rattle.std.proofs.lemmas.List.{at_drop_more}
use Rattle.clear_words.proofs.command.command.Goals as goal

-- with the task alone, every option is left
begins : (made : App) → made ≡ of_task → fold with_option made all_options ≡ command
unfolding command
begins made is = ap (λ a. fold with_option a all_options) is

pub loop-job_option-init : goal.loop-job_option-init
loop-job_option-init c = begins (app_of c.in_ok-command.command) c.in_ok-command.ensures

pub loop-job_option-preserved : goal.loop-job_option-preserved
loop-job_option-preserved c =
    let i = c.loop-job_option.job_option-index in
    let made = app_of c.loop-job_option.command in
    let added = c.in_ok-command-2.ensures.shape c.option.ensures.local
    ∙ ap (with_rule made) (c.option.ensures.rule ∙ ap option_argument c.name.ensures) in
    ap (λ a. fold with_option a (drop (i + 1) all_options)) added
    ∙ sym (at_drop_more (fold with_option made) all_options i option.Banks c.loop-job_option-test.true)
    ∙ c.loop-job_option.invariant
