use Rattle.script_words.specs.EditsLemmas.{one_text, one_edit}
use Rattle.scripts.proofs.EventWords.{one_whole}
use Rattle.scripts.proofs.OneScript.{one_script}
use Rattle.scripts.proofs.laws.spellings_differ.Goals as goal

pub returns-clause-strings : goal.returns-clause-strings
returns-clause-strings c = one_text

pub returns-clause-edits : goal.returns-clause-edits
returns-clause-edits c = one_edit

pub returns-clause-events : goal.returns-clause-events
returns-clause-events c = one_whole

pub returns-clause-scripts : goal.returns-clause-scripts
returns-clause-scripts c = one_script
