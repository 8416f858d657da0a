-- A text that has a line too long or one too many has one fault, whatever follows it.
use Rattle.std.proofs.Common.{◌≡◌, ◌≤◌, ℕ, List, [], ◌++◌, refl, sym, subst, ◌∙◌, arith, Option}
use Rattle.std.proofs.Common.{Some, None, append-nil, length}
use Rattle.std.specs.Prelude.{Bool, IfSome}
use Rattle.std.specs.Io.KnownBytes.{Consumes, IsAtEnd}
use Rattle.std.proofs.KnownBytes.{Consumes-trans}
use Rattle.std.proofs.lemmas.Grind.{common_steps}
use Rattle.script_words.specs.declared.error.ScriptError.{ScriptError}
use Rattle.scripts.specs.declared.reader.ScriptFault.{ScriptFault}
use Rattle.program.specs.declared.failure.Failure.{Failure}
use Rattle.program.specs.declared.failure.Failure.TheVariants.{Unreadable, Script, Output, Memory}
use Rattle.program.specs.Failures.{IsFailureOf, IsOfInput, IsOfReading}
use Rattle.script_words.specs.Lines.{script_lines}
use Rattle.scripts.specs.Faults.{script_fault, start, IsReported}
use Rattle.scripts.specs.Beginnings.{HasExtent, IsEnough, IsFaulty, IsWithinLimits}
use Rattle.scripts.specs.BeginningsLemmas.{reported_enough}
use Rattle.scripts.specs.declared.extent.Extent.{Extent}
use Rattle.program.specs.Readings.{EndsInTime}
use Rattle.program.specs.Readings.EndsInTime.{Piece}

pub read_more : (old mid new : Option (List ℕ)) (text bytes all : List ℕ) →
    all ≡ text ++ bytes → Consumes old mid text → Consumes mid new bytes → Consumes old new all
read_more old mid new text bytes all is before after =
    subst (λ l. Consumes old new l) (sym is) (Consumes-trans old mid new text bytes before after)

-- one piece more was read
pub one_more : (front last all : List ℕ) (extent : Extent) → all ≡ front ++ last →
    EndsInTime front → HasExtent front extent → IsWithinLimits extent → length last ≤ 8192 →
    EndsInTime all
one_more front last all extent is before has within piece =
    subst EndsInTime (sym is) (Piece front last extent before has within piece)

-- no more was read
pub read_no_more : (old mid new : Option (List ℕ)) (text : List ℕ) → Consumes old mid text →
    Consumes mid new [] → Consumes old new text
read_no_more old mid new text before after =
    read_more old mid new text [] text (sym (append-nil text)) before after

pub whole_read : (old new : Option (List ℕ)) (text : List ℕ) → Consumes old new text →
    IsAtEnd new → IfSome old (λ whole. IsEnough whole text)
whole_read None new text consumed end = tt
whole_read (Some xs) None text consumed end = absurd consumed
whole_read (Some xs) (Some ys) text consumed end =
    let same : xs ≡ text = consumed ∙ (rw end (append-nil text)) in
    record {
      behind = ys;
      begins = consumed;
      fault = λ faults. rw same refl;
      all = λ faults none. same;
    }

some_fault : (fault : ℕ × ScriptError) (found : Option (ℕ × ScriptError)) → found ≡ Some fault →
    found ≡ None → ⊥
some_fault fault found is none = grind (arith, common_steps)

pub fault_read : (old new : Option (List ℕ)) (text : List ℕ) → Consumes old new text →
    IsFaulty text → IfSome old (λ whole. IsEnough whole text)
fault_read None new text consumed faulty = tt
fault_read (Some xs) None text consumed faulty = absurd consumed
fault_read (Some xs) (Some ys) text consumed faulty =
    let alone : (faults : Bool)
    → script_fault (start faults) 1 (script_lines text) ≡ Some (faulty faults).0 =
    λ faults. rw (append-nil text) at ((faulty faults).1 []) in
    record {
      behind = ys;
      begins = consumed;
      fault = λ faults. rw consumed ((faulty faults).1 ys ∙ sym (alone faults));
      all = λ faults none. absurd (some_fault (faulty faults).0 _ (alone faults) none);
    }

-- what is reported of a text that shows the fault of the whole
pub reported_input : (faults : Bool) (old : Option (List ℕ)) (text : List ℕ) (f : ScriptFault) →
    IfSome old (λ whole. IsEnough whole text) →
    IsReported faults (script_lines text) f.line f.error →
    IfSome old (λ t. IsFailureOf faults t (Script f))
reported_input faults None text f enough r = tt
reported_input faults (Some whole) text f enough r =
    reported_enough faults whole text f.line f.error enough r

pub of_reading : (failure : Failure) → IsOfInput failure → IsOfReading failure
of_reading Unreadable cause = tt
of_reading (Script f) cause = tt
of_reading Output cause = absurd cause
of_reading Memory cause = tt

pub not_read : (faults : Bool) (old : Option (List ℕ)) (failure : Failure) → IsOfInput failure →
    IfSome old (λ text. IsFailureOf faults text failure)
not_read faults None failure cause = tt
not_read faults (Some text) Unreadable cause = tt
not_read faults (Some text) (Script f) cause = absurd cause
not_read faults (Some text) Output cause = absurd cause
not_read faults (Some text) Memory cause = tt
