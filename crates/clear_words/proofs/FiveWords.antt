-- A task and both files, each by its option, are a job.
use Rattle.std.proofs.Common.{◌≡◌, ◌∙◌, ◌∷◌, List, None, Some, [], ap, ap₂, codes, refl, true}
use Rattle.std.specs.Prelude.{◌==◌, ◌&&◌, if◌then◌else◌, is_some, length, option_and_then}
use Rattle.clap.specs.Faults.{check_fault, defaults_fault, entered_fault, settle_fault, walk_fault}
use Rattle.clap.specs.Kinds.{Kinds, or_else}
use Rattle.clap.specs.Simple.{App, Shape, built, entered}
use Rattle.clap.specs.Walk.{Rule, Text, Walk, after_step, finished, idle, nothing_held, plain_word}
use Rattle.clap.specs.Walk.{settled, walk, walk_from, walked}
use Rattle.clap.specs.Words.{Row, fault_of, matches_of}
use Rattle.clap.proofs.OnLiterals.{clap_on_literals}
use Rattle.clear_words.specs.Command.{command}
use Rattle.clear_words.specs.Job.{job_for, job_in, job_of, on_both_files}
use Rattle.clear_words.specs.Options.{may_name_a_file}
use Rattle.clear_words.specs.Tasks.{needs_files_alone, task_named, word_of}
use Rattle.clear_words.specs.declared.task.Task.{Task}
use Rattle.clear_words.specs.declared.task.Task.TheVariants as task
use Rattle.clear_words.proofs.PlainWords.{IsPlainWord, named_is_plain, plain_walked}
use Rattle.clear_words.proofs.PlainWords.{plain_walk_fault}

-- the command as it is built, its shape and its rules
abbrev app : App
app = built command

-- what options the command has
abbrev shape : Shape
shape = app.top

-- and which of them each task asks for or refuses
abbrev rules : List Rule
rules = shape.rules

-- the words that are options, and all five
abbrev banks_word : Text
banks_word = codes "--banks"

-- the option of the debts file
abbrev debts_word : Text
debts_word = codes "--debts"

-- a task, both options and a value for each
abbrev words : Text → Text → Text → List Text
words task banks debts = task ∷ banks_word ∷ banks ∷ debts_word ∷ debts ∷ []

-- where the walk stands after each of the words
abbrev with_value : Walk → Text → Walk
with_value w word =
    after_step rules word w (plain_word rules w.waiting word w.held).0
    (plain_word rules w.waiting word w.held).1

-- after the task
abbrev before_banks : Text → Walk
before_banks task = walked rules [] (with_value (walk_from nothing_held) task) banks_word

-- after the banks file
abbrev before_debts : Text → Text → Walk
before_debts task banks = walked rules [] (with_value (before_banks task) banks) debts_word

-- after the debts file, at the end
abbrev after_debts : Text → Text → Text → Walk
after_debts task banks debts = with_value (before_debts task banks) debts

-- the fault of a parse, by that of its walk and by where the walk ends
abbrev fault_after : Kinds → Walk → Kinds
fault_after fault w = or_else fault
    (or_else (entered_fault app w.stopped)
    (or_else (settle_fault rules shape.args_override_self w.held)
    (or_else (defaults_fault (settled rules w.held).rows rules)
    (check_fault shape (finished rules w.held) (is_some (entered app w.stopped))))))

-- what the command finds in them
abbrev five_rows : Text → Text → Text → List Row
five_rows task banks debts = finished rules (after_debts task banks debts).held

module _ (task banks debts : Text) (is_task : IsPlainWord task) (is_banks : IsPlainWord banks)
    (is_debts : IsPlainWord debts) where
  -- the walk goes through all five words
  five_walked : walk rules [] nothing_held (words task banks debts) ≡ after_debts task banks debts
  unfolding clap_on_literals command
  five_walked =
      ap
      (λ w. walked rules []
      (walked rules [] (walked rules [] (walked rules [] w banks_word) banks) debts_word) debts)
      (plain_walked rules nothing_held idle 1 task is_task refl)
      ∙ ap (λ w. walked rules [] (walked rules [] w debts_word) debts)
      (plain_walked rules (before_banks task).held (before_banks task).waiting
      (before_banks task).position banks is_banks refl)
      ∙ plain_walked rules (before_debts task banks).held (before_debts task banks).waiting
      (before_debts task banks).position debts is_debts refl

  -- and meets no fault
  five_walk_fault : walk_fault shape [] (walk_from nothing_held) (words task banks debts) ≡ []
  unfolding clap_on_literals command
  five_walk_fault =
      plain_walk_fault shape nothing_held idle 1 task
      (banks_word ∷ banks ∷ debts_word ∷ debts ∷ []) is_task refl
      ∙ plain_walk_fault shape (before_banks task).held (before_banks task).waiting
      (before_banks task).position banks (debts_word ∷ debts ∷ []) is_banks refl
      ∙ plain_walk_fault shape (before_debts task banks).held (before_debts task banks).waiting
      (before_debts task banks).position debts [] is_debts refl

  -- so the command finds none in them
  five_fault : fault_of command (words task banks debts) ≡ []
  unfolding clap_on_literals command
  five_fault = ap₂ fault_after five_walk_fault five_walked

  -- and finds just these rows
  five_matches : matches_of command (words task banks debts) ≡ five_rows task banks debts
  unfolding clap_on_literals command
  five_matches = ap (λ w. finished rules w.held) five_walked

-- the word of a task names it, and is no option
word_names : (t : Task) → (task_named (word_of t) ≡ Some t) × (may_name_a_file (word_of t) ≡ true)
word_names task.Check = (refl, refl)
word_names t = (refl, refl)

-- both files are enough for a task that needs no more
enough : (t : Task) (banks debts : Text) → needs_files_alone t ≡ true
    → may_name_a_file banks ≡ true → may_name_a_file debts ≡ true
    → job_for (five_rows (word_of t) banks debts) t ≡ Some (on_both_files t banks debts)
unfolding clap_on_literals command
enough task.Stress banks debts alone b d = absurd (cc)
enough task.Replay banks debts alone b d = absurd (cc)
enough task.Gen banks debts alone b d = absurd (cc)
enough task.Rescue banks debts alone b d = absurd (cc)
enough task.Costs banks debts alone b d = absurd (cc)
enough task.Outcomes banks debts alone b d = absurd (cc)
enough task.CostBounds banks debts alone b d = absurd (cc)
enough t banks debts alone b d =
    ap₂ (λ x y. if x && (y && true) then Some (on_both_files t banks debts) else None) b d

-- the word of the task, and both files by their options, are the job of the task on these files
pub five_words : (t : Task) (banks debts : Text) → needs_files_alone t ≡ true
    → may_name_a_file banks ≡ true → may_name_a_file debts ≡ true
    → job_of (words (word_of t) banks debts) ≡ Some (on_both_files t banks debts)
unfolding clap_on_literals command job_of
five_words t banks debts alone b d =
    let named = word_names t in
    let is_task = named_is_plain (word_of t) named.1 in
    let is_banks = named_is_plain banks b in
    let is_debts = named_is_plain debts d in
    ap₂ (λ faults rows. if length faults == 0 then job_in rows else None)
    (five_fault (word_of t) banks debts is_task is_banks is_debts)
    (five_matches (word_of t) banks debts is_task is_banks is_debts)
    ∙ ap (option_and_then (job_for (five_rows (word_of t) banks debts))) named.0
    ∙ enough t banks debts alone b d
