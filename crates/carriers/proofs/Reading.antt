-- What was spelled is read again.
use Rattle.std.proofs.Common.{◌≡◌, ◌⊎◌, ℕ, List, [], Option, Some, None, Result, Ok, Err, inl, inr}
use Rattle.std.proofs.Common.{refl, sym, subst, append-nil, ◌∙◌}
use Rattle.std.specs.Prelude.{IfOk, MatchResult, ◌≢◌}
use Rattle.link_messages.specs.declared.FrameError.{FrameError}
use Rattle.link_messages.specs.declared.FrameError.TheVariants as fault
use Rattle.link_messages.specs.declared.Frame.{Frame}
use Rattle.link_messages.specs.{IsFrame, frame_bytes, NextOutcome, OneAnswer}
use Rattle.carriers.specs.declared.sending.Received.{Received}
use Rattle.carriers.specs.declared.sending.Received.TheVariants as received
use Rattle.carriers.specs.Carriers.{IsReadFrom, IsSpelling}

-- of a frame's spelling the answer is that frame, or there was no memory
pub read_again : OneAnswer → (answer : Result (Option Frame) FrameError) (it : Frame)
    (left : List ℕ) → IsFrame it → NextOutcome answer (frame_bytes it) left →
    (answer ≡ Ok (Some it)) ⊎ (answer ≡ Err fault.Memory)
read_again one (Ok (Some f)) it left is says =
    inl (one (Ok (Some f)) (Ok (Some it)) (frame_bytes it) left [] says
    (is, sym (append-nil (frame_bytes it)))).0
read_again one (Ok None) it left is says =
    inl (one (Ok None) (Ok (Some it)) (frame_bytes it) left [] says
    (is, sym (append-nil (frame_bytes it)))).0
read_again one (Err fault.Memory) it left is says = inr refl
read_again one (Err fault.TooLong) it left is says =
    inl (one (Err fault.TooLong) (Ok (Some it)) (frame_bytes it) left [] says
    (is, sym (append-nil (frame_bytes it)))).0
read_again one (Err fault.BadKind) it left is says =
    inl (one (Err fault.BadKind) (Ok (Some it)) (frame_bytes it) left [] says
    (is, sym (append-nil (frame_bytes it)))).0
read_again one (Err fault.BadField) it left is says =
    inl (one (Err fault.BadField) (Ok (Some it)) (frame_bytes it) left [] says
    (is, sym (append-nil (frame_bytes it)))).0
read_again one (Err fault.Trailing) it left is says =
    inl (one (Err fault.Trailing) (Ok (Some it)) (frame_bytes it) left [] says
    (is, sym (append-nil (frame_bytes it)))).0

-- bytes that spell a frame have nothing behind what is read from them
pub read_all : OneAnswer → (got it : Frame) (bytes left : List ℕ) → IsSpelling bytes it →
    NextOutcome (Ok (Some got)) bytes left → left ≡ []
read_all one got it bytes left is says = (one (Ok (Some got)) (Ok (Some it)) bytes left [] says
    (is.0, is.1 ∙ sym (append-nil (frame_bytes it)))).1

-- bytes that are not read as a frame spell none
pub none_read : OneAnswer → (answer : Result (Option Frame) FrameError) (bytes left : List ℕ) →
    NextOutcome answer bytes left → ((it : Frame) → answer ≡ Ok (Some it) → ⊥) →
    (answer ≡ Err fault.Memory → ⊥) → (it : Frame) → IsSpelling bytes it → ⊥
none_read one answer bytes left says other fits it is =
    elim (read_again one answer it left is.0 (rw is.1 at says)) [
      | inl same ↦ other it same
      | inr memory ↦ fits memory
    ]

-- bytes with an error spell none, or there was no memory to read them
pub read_no : {E : Type 0} → OneAnswer → (e : FrameError) (bytes left : List ℕ) →
    NextOutcome (Err e) bytes left → (r : Result Received E) →
    MatchResult r (λ it. (it ≡ received.Unreadable) × (e ≢ fault.Memory)) (λ _. e ≡ fault.Memory)
    → IfOk r (IsReadFrom bytes)
read_no one e bytes left says (Ok it) is = subst (IsReadFrom bytes) (sym is.0)
    (none_read one (Err e) bytes left says (λ it same. cc) (λ same. is.1 (cc)))
read_no one e bytes left says (Err x) is = tt
