use Rattle.std.proofs.Common.{◌≡◌, List, None, map, take, false, not}
use Rattle.std.specs.Prelude.{All}
use Rattle.std.specs.List.{list_any}
use Rattle.kv_types.specs.declared.Edit.{Edit}
use Rattle.script_words.specs.Edits.{is_edit, edit_word, AreBytesIn}
use Rattle.scripts.specs.Actions.{edits_error}
use Rattle.scripts.proofs.submit.spelled_batch.Given as goal

-- the words so far spell edits, which are made unless one of them has an error
abbrev pub invariant-loop-word : goal.invariant-loop-word
invariant-loop-word l = record {
  each : list_any (λ w. not (is_edit w.now)) (take l.word-index l.words) ≡ false;
  spelled : List Edit;
  each_bytes : All AreBytesIn spelled;
  texts : map (λ w. w.now) (take l.word-index l.words) ≡ map edit_word spelled;
  error : edits_error spelled ≡ l.error;
  made : l.error ≡ None → l.edits.items ≡ spelled;
}
