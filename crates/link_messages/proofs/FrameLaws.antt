-- Frames: the reader of each kind reads back its spelling.
use Rattle.std.proofs.Common.{◌≡◌, ℕ, zero, suc, ◌+◌, ◌<◌, ◌≤◌, List, []}
use Rattle.std.proofs.Common.{◌∷◌, ◌++◌, length}
use Rattle.std.proofs.Common.{Option, Some, None, refl, ap, subst, arith}
use Rattle.configurations.specs.{TestDecidesConfig}
use Rattle.byte_fields.specs.{◌>>=◌, Reader, mapped}
use Rattle.byte_fields.specs.FieldsLemmas.{IsBytes, bind_some, some_is, BeginsWith}
use Rattle.link_messages.specs.declared.frame.Frame.{Frame}
use Rattle.link_messages.specs.declared.frame.Frame.TheVariants as frame
use Rattle.link_messages.specs.Spelling.{kind, fields, IsFrame}
use Rattle.link_messages.specs.Reading.{forward_at, ack_at, notice_at}
use Rattle.link_messages.specs.Reading.{submit_at, get_at, rows_frame_at, open_at, close_at}
use Rattle.link_messages.specs.Reading.{committed_at, value_at, rows_are_at, opened_at, refused_at}
use Rattle.link_messages.specs.Reading.{closed_at, readers, nth, reader_of}
use Rattle.byte_fields.specs.ReadersLemmas.{Reads, both_reads}
use Rattle.link_messages.proofs.FieldLaws.{epoch_reads, id_reads, count_reads, place_reads}
use Rattle.link_messages.proofs.FieldLaws.{at_reads}
use Rattle.link_messages.proofs.FieldLaws.{key_reads, found_reads, batch_reads, config_reads}
use Rattle.link_messages.proofs.FieldLaws.{range_reads, page_reads, refusal_reads}

-- what a reader of this kind reads is a frame of the kind, in range and spelled so
pub record IsReaderOf (k : ℕ) (read : Reader Frame) : Type 0 where
  pub takes : (bytes : List ℕ) (x : Frame × List ℕ) → IsBytes bytes → read bytes ≡ Some x
      → (kind x.0 ≡ k) × BeginsWith bytes (fields x.0) x.1 × IsFrame x.0

of_kind : {A : Type 0} {Is : A → Type 0} {spell : A → List ℕ} {read : Reader A} (k : ℕ)
    (make : A → Frame) → ((a : A) → kind (make a) ≡ k) → ((a : A) → spell a ≡ fields (make a))
    → ((a : A) → Is a → IsFrame (make a)) → Reads Is spell read → IsReaderOf k (mapped make read)
of_kind {A} {Is} {spell} {read} k make kinds spelled right r =
    record {
      takes = λ bytes x fits e.
          let a = bind_some (read bytes) (λ a. Some (make a.0, a.1)) x e in
          let t = r.takes bytes a.0 fits a.1 in
          let whole : BeginsWith bytes (fields (make a.0.0)) a.0.1 =
          subst (λ (s : List ℕ). BeginsWith bytes s a.0.1) (spelled a.0.0) t.0 in
          let found : Frame × List ℕ = (make a.0.0, a.0.1) in
          subst (λ (y : Frame × List ℕ). (kind y.0 ≡ k) × BeginsWith bytes (fields y.0) y.1
          × IsFrame y.0) (some_is found x a.2)
          (kinds a.0.0, whole, right a.0.0 t.1);
    }

again : {A : Type 0} {Is : A → Type 0} {spell : A → List ℕ} {read : Reader A} (make : A → Frame)
    (a : A) (rest : List ℕ) → Is a → Reads Is spell read
    → mapped make read (spell a ++ rest) ≡ Some (make a, rest)
again {A} {Is} {spell} {read} make a rest is r =
    ap (λ (o : Option (A × List ℕ)). o >>= λ a. Some (make a.0, a.1)) (r.again a rest is)

forward_reader : IsReaderOf 1 forward_at
unfolding forward_at
forward_reader =
    of_kind 1 (λ x. frame.Forward x.0 x.1.0 x.1.1.0 x.1.1.1) (λ a. refl) (λ a. refl) (λ a p.
    (p.0, p.1.0, p.1.1.0, p.1.1.1))
    (both_reads epoch_reads (both_reads id_reads (both_reads place_reads batch_reads)))

ack_reader : IsReaderOf 2 ack_at
unfolding ack_at
ack_reader =
    of_kind 2 (λ x. frame.Ack x.0 x.1.0 x.1.1.0 x.1.1.1) (λ a. refl) (λ a. refl) (λ a p.
    (p.0, p.1.0, p.1.1.0, p.1.1.1))
    (both_reads epoch_reads (both_reads id_reads (both_reads count_reads count_reads)))

notice_reader : TestDecidesConfig → IsReaderOf 3 notice_at
unfolding notice_at
notice_reader decides =
    of_kind 3 (λ x. frame.Notice x.0 x.1) (λ a. refl) (λ a. refl) (λ a p. (p.0, p.1))
    (both_reads epoch_reads (config_reads decides))

submit_reader : IsReaderOf 4 submit_at
unfolding submit_at
submit_reader =
    of_kind 4 (λ x. frame.Submit x.0 x.1) (λ a. refl) (λ a. refl) (λ a p. (p.0, p.1))
    (both_reads count_reads batch_reads)

get_reader : IsReaderOf 5 get_at
unfolding get_at
get_reader =
    of_kind 5 (λ x. frame.Get x.0 x.1.0 x.1.1) (λ a. refl) (λ a. refl) (λ a p. (p.0, p.1.0, p.1.1))
    (both_reads count_reads (both_reads at_reads key_reads))

rows_frame_reader : IsReaderOf 6 rows_frame_at
unfolding rows_frame_at
rows_frame_reader =
    of_kind 6 (λ x. frame.Rows x.0 x.1.0 x.1.1) (λ a. refl) (λ a. refl) (λ a p. (p.0, p.1.0, p.1.1))
    (both_reads count_reads (both_reads at_reads range_reads))

open_reader : IsReaderOf 7 open_at
unfolding open_at
open_reader =
    of_kind 7 (λ x. frame.Open x.0 x.1) (λ a. refl) (λ a. refl) (λ a p. (p.0, p.1))
    (both_reads count_reads at_reads)

close_reader : IsReaderOf 8 close_at
unfolding close_at
close_reader =
    of_kind 8 (λ x. frame.Close x.0 x.1) (λ a. refl) (λ a. refl) (λ a p. (p.0, p.1))
    (both_reads count_reads count_reads)

committed_reader : IsReaderOf 9 committed_at
unfolding committed_at
committed_reader =
    of_kind 9 (λ x. frame.Committed x.0 x.1) (λ a. refl) (λ a. refl) (λ a p. (p.0, p.1))
    (both_reads count_reads count_reads)

value_reader : IsReaderOf 10 value_at
unfolding value_at
value_reader =
    of_kind 10 (λ x. frame.Value x.0 x.1.0 x.1.1) (λ a. refl) (λ a. refl) (λ a p.
    (p.0, p.1.0, p.1.1))
    (both_reads count_reads (both_reads count_reads found_reads))

rows_are_reader : IsReaderOf 11 rows_are_at
unfolding rows_are_at
rows_are_reader =
    of_kind 11 (λ x. frame.RowsAre x.0 x.1.0 x.1.1) (λ a. refl) (λ a. refl) (λ a p.
    (p.0, p.1.0, p.1.1))
    (both_reads count_reads (both_reads count_reads page_reads))

opened_reader : IsReaderOf 12 opened_at
unfolding opened_at
opened_reader =
    of_kind 12 (λ x. frame.Opened x.0 x.1) (λ a. refl) (λ a. refl) (λ a p. (p.0, p.1))
    (both_reads count_reads count_reads)

refused_reader : IsReaderOf 13 refused_at
unfolding refused_at
refused_reader =
    of_kind 13 (λ x. frame.Refused x.0 x.1) (λ a. refl) (λ a. refl) (λ a p. p.0)
    (both_reads count_reads refusal_reads)

closed_reader : IsReaderOf 14 closed_at
unfolding closed_at
closed_reader =
    of_kind 14 (λ x. frame.Closed x.0 x.1) (λ a. refl) (λ a. refl) (λ a p. (p.0, p.1))
    (both_reads count_reads count_reads)

Each : ℕ → List (Reader Frame) → Type 0
Each k [] = Unit {0}
Each k (read ∷ reads) = IsReaderOf k read × Each (suc k) reads

each_reader : TestDecidesConfig → Each 1 readers
unfolding Each
each_reader decides = (
  forward_reader,
  (
    ack_reader,
    (
      notice_reader decides,
      (
        submit_reader,
        (
          get_reader,
          (
            rows_frame_reader,
            (
              open_reader,
              (
                close_reader,
                (
                  committed_reader,
                  (
                    value_reader,
                    (rows_are_reader, (opened_reader, (refused_reader, (closed_reader, tt)))),
                  ),
                ),
              ),
            ),
          ),
        ),
      ),
    ),
  ),
)

nth_reader : (k : ℕ) (reads : List (Reader Frame)) (i m : ℕ) (read : Reader Frame) → Each k reads
    → m ≡ k + i → nth reads i ≡ Some read → IsReaderOf m read
unfolding Each
nth_reader k [] i m read each is e = absurd cc
nth_reader k (first ∷ reads) zero m read each is e =
    let same : first ≡ read = cc e in
    let place : k ≡ m = omega (arith, is) in
    subst (λ (n : ℕ). IsReaderOf n read) place (subst (IsReaderOf k) same each.0)
nth_reader k (first ∷ reads) (suc i) m read each is e =
    nth_reader (suc k) reads i m read each.1 (omega (arith, is)) e

-- the reader of a known kind
pub reader_is : TestDecidesConfig →
    (k : ℕ) (read : Reader Frame) → reader_of k ≡ Some read → IsReaderOf k read
reader_is decides zero read e = absurd cc
reader_is decides (suc i) read e =
    nth_reader 1 readers i (suc i) read (each_reader decides) (omega arith) e

nth_there : {A : Type 0} (xs : List A) (i : ℕ) (x : A) → nth xs i ≡ Some x → i < length xs
nth_there [] i x e = absurd cc
nth_there (y ∷ xs) zero x e = omega arith
nth_there (y ∷ xs) (suc i) x e = omega (arith, nth_there xs i x e)

nth_not : {A : Type 0} (xs : List A) (i : ℕ) → nth xs i ≡ None → length xs ≤ i
nth_not [] i e = omega arith
nth_not (y ∷ xs) zero e = absurd cc
nth_not (y ∷ xs) (suc i) e = omega (arith, nth_not xs i e)

-- kinds 1 to 14 have readers, and no others
pub known : (k : ℕ) (read : Reader Frame) → reader_of k ≡ Some read → (1 ≤ k) × (k ≤ 14)
known zero read e = absurd cc
known (suc i) read e = (omega arith, omega (arith, nth_there readers i read e))

pub unknown : (k : ℕ) → reader_of k ≡ None → (1 ≤ k) × (k ≤ 14) → ⊥
unknown zero e in_range = absurd (omega (arith, in_range.0))
unknown (suc i) e in_range = absurd (omega (arith, in_range.1, nth_not readers i e))

-- the reader that a frame's kind has reads the frame
pub record ReadsAgain (f : Frame) (rest : List ℕ) : Type 0 where
  pub read : Reader Frame
  pub of_kind : reader_of (kind f) ≡ Some read
  pub again : read (fields f ++ rest) ≡ Some (f, rest)

pub frame_again : TestDecidesConfig → (f : Frame) (rest : List ℕ) → IsFrame f → ReadsAgain f rest
unfolding forward_at ack_at notice_at submit_at get_at rows_frame_at open_at close_at
    committed_at value_at rows_are_at opened_at refused_at closed_at
frame_again decides (frame.Forward epoch from number batch) rest is =
    record {
      read = forward_at;
      of_kind = refl;
      again = again (λ x. frame.Forward x.0 x.1.0 x.1.1.0 x.1.1.1) (
        epoch,
        (
          from,
          (number, batch),
        ),
      ) rest (is.0, (is.1, (is.2, is.3)))
          (both_reads epoch_reads (both_reads id_reads (both_reads place_reads batch_reads)));
    }
frame_again decides (frame.Ack epoch from committed have) rest is =
    record {
      read = ack_at;
      of_kind = refl;
      again = again (λ x. frame.Ack x.0 x.1.0 x.1.1.0 x.1.1.1) (
        epoch,
        (
          from,
          (committed, have),
        ),
      ) rest (is.0, (is.1, (is.2, is.3)))
          (both_reads epoch_reads (both_reads id_reads (both_reads count_reads count_reads)));
    }
frame_again decides (frame.Notice epoch config) rest is =
    record {
      read = notice_at;
      of_kind = refl;
      again = again (λ x. frame.Notice x.0 x.1) (epoch, config) rest (is.0, is.1)
          (both_reads epoch_reads (config_reads decides));
    }
frame_again decides (frame.Submit request batch) rest is =
    record {
      read = submit_at;
      of_kind = refl;
      again = again (λ x. frame.Submit x.0 x.1) (request, batch) rest (is.0, is.1)
          (both_reads count_reads batch_reads);
    }
frame_again decides (frame.Get request at key) rest is =
    record {
      read = get_at;
      of_kind = refl;
      again = again (λ x. frame.Get x.0 x.1.0 x.1.1) (request, (at, key)) rest (is.0, (is.1, is.2))
          (both_reads count_reads (both_reads at_reads key_reads));
    }
frame_again decides (frame.Rows request at range) rest is =
    record {
      read = rows_frame_at;
      of_kind = refl;
      again = again (λ x. frame.Rows x.0 x.1.0 x.1.1) (request, (at, range)) rest (
        is.0,
        (is.1, is.2),
      )
          (both_reads count_reads (both_reads at_reads range_reads));
    }
frame_again decides (frame.Open request at) rest is =
    record {
      read = open_at;
      of_kind = refl;
      again = again (λ x. frame.Open x.0 x.1) (request, at) rest (is.0, is.1)
          (both_reads count_reads at_reads);
    }
frame_again decides (frame.Close request number) rest is =
    record {
      read = close_at;
      of_kind = refl;
      again = again (λ x. frame.Close x.0 x.1) (request, number) rest (is.0, is.1)
          (both_reads count_reads count_reads);
    }
frame_again decides (frame.Committed request number) rest is =
    record {
      read = committed_at;
      of_kind = refl;
      again = again (λ x. frame.Committed x.0 x.1) (request, number) rest (is.0, is.1)
          (both_reads count_reads count_reads);
    }
frame_again decides (frame.Value request number value) rest is =
    record {
      read = value_at;
      of_kind = refl;
      again = again (λ x. frame.Value x.0 x.1.0 x.1.1) (request, (number, value)) rest (
        is.0,
        (is.1, is.2),
      )
          (both_reads count_reads (both_reads count_reads found_reads));
    }
frame_again decides (frame.RowsAre request number page) rest is =
    record {
      read = rows_are_at;
      of_kind = refl;
      again = again (λ x. frame.RowsAre x.0 x.1.0 x.1.1) (request, (number, page)) rest (
        is.0,
        (is.1, is.2),
      )
          (both_reads count_reads (both_reads count_reads page_reads));
    }
frame_again decides (frame.Opened request number) rest is =
    record {
      read = opened_at;
      of_kind = refl;
      again = again (λ x. frame.Opened x.0 x.1) (request, number) rest (is.0, is.1)
          (both_reads count_reads count_reads);
    }
frame_again decides (frame.Refused request refusal) rest is =
    record {
      read = refused_at;
      of_kind = refl;
      again = again (λ x. frame.Refused x.0 x.1) (request, refusal) rest (is, tt)
          (both_reads count_reads refusal_reads);
    }
frame_again decides (frame.Closed request number) rest is =
    record {
      read = closed_at;
      of_kind = refl;
      again = again (λ x. frame.Closed x.0 x.1) (request, number) rest (is.0, is.1)
          (both_reads count_reads count_reads);
    }
