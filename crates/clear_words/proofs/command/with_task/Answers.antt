use Rattle.std.proofs.Common.{◌≡◌, ◌∙◌, ap, ap₂, codes, rules, true}
use Rattle.clap.specs.Words.{app_of, new_app, rule_of, with_rule}
use Rattle.clap.specs.Simple.{app_of_fields, on_top}
use Rattle.clear_words.specs.Command.{plain, task_argument}
use Rattle.clear_words.proofs.command.with_task.Goals as goal

pub returns : goal.returns
returns c =
    let unnamed : app_of c.no_binary_name.result
    ≡ on_top (λ s. record s { no_binary_name = true }) (new_app (codes "clearing")) =
    ap app_of_fields c.no_binary_name.ensures
    ∙ ap (on_top (λ s. record s { no_binary_name = true })) c.new.ensures.app in
    let plain_is : app_of c.disable_help_flag.result ≡ plain =
    ap app_of_fields c.disable_help_flag.ensures
    ∙ ap (on_top (λ s. record s { disable_help_flag = true })) unnamed in
    let task_is : rule_of c.task.result ≡ task_argument (codes "task") = search rules in
    c.in_ok-command.ensures.shape c.task.ensures.local ∙ ap₂ with_rule plain_is task_is
