-- A text that has a line too long or one too many has one fault, whatever follows it.
use Rattle.std.proofs.Common.{◌≡◌, ◌≢◌, ◌⊎◌, ◌+◌, ◌<◌, ◌≤◌, ℕ, suc, List, [], ◌∷◌, ◌++◌, refl}
use Rattle.std.proofs.Common.{sym, ap, subst, ◌∙◌, inl, inr, arith, true, false, Option, Some, None}
use Rattle.std.proofs.Common.{length, append_assoc, append-nil, min, ◌^◌, ◌-◌}
use Rattle.std.proofs.Math.Nat.{min-le_left}
use Rattle.std.specs.Prelude.{Bool, ◌==◌, if◌then◌else◌, is_none, nat_lt}
use Rattle.std.specs.Option.{option_map_or, option_or}
use Rattle.std.specs.List.{onto_first}
use Rattle.std.proofs.lemmas.Bool.{cases_Bool}
use Rattle.std.proofs.lemmas.Bool.Decides.{nat_tests}
use Rattle.std.proofs.lemmas.Grind.{common_steps}
use Rattle.std.proofs.lemmas.List.{length-append}
use Rattle.std.proofs.lemmas.List.Elements.{All-append, All-nil, All-head, All-tail}
use Rattle.script_words.specs.declared.error.ScriptError.{ScriptError}
use Rattle.script_words.specs.declared.error.ScriptError.TheVariants.{LineTooLong, TooManyLines}
use Rattle.script_words.specs.declared.error.ScriptError.TheVariants.{BadConfiguration, OutOfMemory}
use Rattle.scripts.specs.declared.extent.Extent.{Extent}
use Rattle.scripts.specs.declared.statement.ParserState.{ParserState}
use Rattle.script_words.specs.Lines.{HasNoFeed, script_lines}
use Rattle.scripts.specs.Faults.{script_fault, start, numbered_fault, line_fault, after_line}
use Rattle.scripts.specs.Faults.{IsReported}
use Rattle.scripts.specs.Beginnings.{HasExtent, HasPassedLimit, IsFaulty}
use Rattle.kv_types.specs.{has}

-- ---- a text grows

snoc : {A : Type 0} (xs : List A) (x : A) (more : List A) → (xs ++ x ∷ []) ++ more ≡ xs ++ x ∷ more
snoc xs x more = append_assoc xs (x ∷ []) more

-- bytes without a line feed are a whole line before one
whole_line : (bytes more : List ℕ) → HasNoFeed bytes →
    script_lines (bytes ++ 10 ∷ more) ≡ bytes ∷ script_lines more
whole_line [] more plain = refl
whole_line (b ∷ bytes) more plain =
    rw (
      All-head (λ b. (b == 10) ≡ false) b bytes plain,
      whole_line bytes more (All-tail (λ b. (b == 10) ≡ false) b bytes plain),
    ) refl

size_more : {A : Type 0} (xs : List A) (x : A) (n : ℕ) → length xs ≡ n →
    length (xs ++ x ∷ []) ≡ n + 1
size_more xs x n is = grind (arith, common_steps)

pub no_text : (extent : Extent) → 0 ≡ extent.lines → 0 ≡ extent.line → HasExtent [] extent
no_text extent lines line = record {
  ended = [];
  behind = [];
  plain = All-nil _;
  same = λ more. refl;
  lines = lines;
  line = line;
}

-- .. by a part of a line
pub part_more : (text part : List ℕ) (old new : Extent) → HasNoFeed part →
    new.lines ≡ old.lines → new.line ≡ old.line + length part → HasExtent text old →
    HasExtent (text ++ part) new
part_more text part old new plain lines line has = record {
  ended = has.ended;
  behind = has.behind ++ part;
  plain = All-append (λ b. (b == 10) ≡ false) has.behind part has.plain plain;
  same = λ more. rw (append_assoc text part more, append_assoc has.behind part more)
      (has.same (part ++ more));
  lines = has.lines ∙ sym lines;
  line = omega (arith, length-append has.behind part, has.line, line);
}

-- .. by a line feed
pub line_more : (text : List ℕ) (old new : Extent) → new.lines ≡ old.lines + 1 → new.line ≡ 0 →
    HasExtent text old → HasExtent (text ++ 10 ∷ []) new
line_more text old new lines line has = record {
  ended = has.ended ++ has.behind ∷ [];
  behind = [];
  plain = All-nil _;
  same = λ more. rw (
    snoc text 10 more,
    has.same (10 ∷ more),
    whole_line has.behind more has.plain,
    snoc has.ended has.behind (script_lines more),
  ) refl;
  lines = size_more has.ended has.behind old.lines has.lines ∙ sym lines;
  line = sym line;
}

-- a sum that is cut at the greatest number of 64 bits is as good beside the limit of a line
pub over_line : (line sum : ℕ) → line ≡ min sum (2 ^ 64 - 1) → 262144 < line → 262144 < sum
over_line line sum is over = omega (arith, is, over, min-le_left sum (2 ^ 64 - 1))

pub within_line : (line sum : ℕ) → line ≡ min sum (2 ^ 64 - 1) → line ≤ 262144 → line ≡ sum
within_line line sum is within = grind (arith, common_steps)

-- a line and its feed are read, and the rest is behind them
pub read_on : (all read rest part behind : List ℕ) → all ≡ read ++ rest →
    rest ≡ part ++ 10 ∷ behind → all ≡ ((read ++ part) ++ 10 ∷ []) ++ behind
read_on all read rest part behind is cut = is ∙ ap (λ l. read ++ l) cut
    ∙ sym (snoc (read ++ part) 10 behind ∙ append_assoc read part (10 ∷ behind))

-- ---- a fault that stays, whatever follows

-- the lines have one fault for each end of this form
abbrev Stays : {A : Type 0} → (A → Option (ℕ × ScriptError)) → Type 0
Stays {A} found = (fault : ℕ × ScriptError) × ((more : A) → found more ≡ Some fault)

or_later : {A : Type 0} (n : ℕ) (o : Option ScriptError) (later : A → Option (ℕ × ScriptError)) →
    Stays later → Stays (λ more. option_map_or (λ e. Some (n, e)) o (later more))
or_later n None later stays = stays
or_later n (Some e) later stays = ((n, e), λ more. refl)

at_last : {A : Type 0} (n : ℕ) (o : Option ScriptError) (later : A → Option (ℕ × ScriptError)) →
    Stays (λ more. option_map_or (λ e. Some (n, e)) (option_or o (Some TooManyLines)) (later more))
at_last n None later = ((n, TooManyLines), λ more. refl)
at_last n (Some e) later = ((n, e), λ more. refl)

is_late : (n : ℕ) → (n ≤ 100000) ⊎ (100000 < n)
is_late n = elim (cases_Bool (nat_lt 100000 n)) [
  | inl t ↦ inr (grind (arith, nat_tests))
  | inr f ↦ inl (grind (arith, nat_tests))
]

longer : (line rest : List ℕ) → 262144 < length line → 262144 < length (line ++ rest)
longer line rest long = grind (arith, common_steps)

above : (a b : ℕ) → a < b → nat_lt a b ≡ true
above a b less = grind (arith, nat_tests)

-- more than 100000 lines
many_stay : (before : ParserState) (n : ℕ) (ended : List (List ℕ)) → n ≤ 100001 →
    100001 < n + length ended → Stays (λ more. script_fault before n (ended ++ more))
many_stay before n [] few many = absurd (omega (arith, few, many))
many_stay before n (line ∷ ended) few many = elim (is_late n) [
  | inl low ↦
      or_later n (numbered_fault before n line)
      (λ more. script_fault (after_line before line) (suc n) (ended ++ more))
      (many_stay (after_line before line) (suc n) ended (omega arith) (omega arith))
  | inr high ↦
      rw (above 100000 n high) (at_last n (line_fault before line)
      (λ more. script_fault (after_line before line) (suc n) (ended ++ more)))
]

-- a line of more than 262144 bytes
long_stays : (before : ParserState) (n : ℕ) (ended : List (List ℕ)) (line : List ℕ) →
    262144 < length line →
    Stays (λ (rest : List ℕ × List (List ℕ)). script_fault before n
    (ended ++ (line ++ rest.0) ∷ rest.1))
long_stays before n [] line long = (
  (n, LineTooLong),
  λ rest. rw (above 262144 (length (line ++ rest.0)) (longer line rest.0 long)) refl,
)
long_stays before n (first ∷ ended) line long =
    or_later n (numbered_fault before n first)
    (λ (rest : List ℕ × List (List ℕ)). script_fault (after_line before first) (suc n)
    (ended ++ (line ++ rest.0) ∷ rest.1))
    (long_stays (after_line before first) (suc n) ended line long)

onto : (b : ℕ) (lines : List (List ℕ)) → (rest : List ℕ × List (List ℕ))
    × (onto_first b lines ≡ (b ∷ rest.0) ∷ rest.1)
onto b [] = (([], []), refl)
onto b (line ∷ lines) = ((line, lines), refl)

-- bytes without a line feed begin a line
begins : (b : ℕ) (bytes more : List ℕ) → HasNoFeed (b ∷ bytes) →
    (rest : List ℕ × List (List ℕ))
    × (script_lines ((b ∷ bytes) ++ more) ≡ ((b ∷ bytes) ++ rest.0) ∷ rest.1)
begins b [] more plain =
    let first = onto b (script_lines more) in
    (first.0, rw (All-head (λ b. (b == 10) ≡ false) b [] plain) first.1)
begins b (c ∷ bytes) more plain =
    let later = begins c bytes more (All-tail (λ b. (b == 10) ≡ false) b (c ∷ bytes) plain) in
    (later.0, rw (All-head (λ b. (b == 10) ≡ false) b (c ∷ bytes) plain, later.1) refl)

long_line : (text : List ℕ) (ended : List (List ℕ)) (behind : List ℕ) → HasNoFeed behind →
    ((more : List ℕ) → script_lines (text ++ more) ≡ ended ++ script_lines (behind ++ more)) →
    262144 < length behind → IsFaulty text
long_line text ended [] plain same long = absurd (omega (arith, long))
long_line text ended (b ∷ bytes) plain same long =
    λ faults. let stays = long_stays (start faults) 1 ended (b ∷ bytes) long in (
      stays.0,
      λ more. let line = begins b bytes more plain in
          rw (same more, line.1) (stays.1 line.0),
    )

pub too_long : (text : List ℕ) (extent : Extent) → HasExtent text extent →
    262144 < extent.line → IsFaulty text
too_long text extent has long = long_line text has.ended has.behind has.plain has.same
    (rw (← has.line) at long)

pub too_many : (text : List ℕ) (extent : Extent) → HasExtent text extent →
    100000 < extent.lines → IsFaulty text
too_many text extent has many =
    let count = has.lines in
    λ faults.
    let stays = many_stay (start faults) 1 has.ended (omega arith) (omega (arith, many, count)) in
    (stays.0, λ more. rw (has.same more) (stays.1 (script_lines (has.behind ++ more))))

-- ---- what was read is enough

more_faulty : (text more : List ℕ) → IsFaulty text → IsFaulty (text ++ more)
more_faulty text more faulty =
    λ faults. ((faulty faults).0, λ rest. rw (append_assoc) ((faulty faults).1 (more ++ rest)))

pub faulty_begins : (text begin more : List ℕ) → text ≡ begin ++ more → IsFaulty begin →
    IsFaulty text
faulty_begins text begin more is faulty = subst IsFaulty (sym is) (more_faulty begin more faulty)

-- .. and where a text passes a limit, so does each longer one
passes_more : (text more : List ℕ) → HasPassedLimit text → HasPassedLimit (text ++ more)
passes_more text more passes = record {
  begin = passes.begin;
  behind = passes.behind ++ more;
  is = ap (λ l. l ++ more) passes.is ∙ append_assoc passes.begin passes.behind more;
  extent = passes.extent;
  has = passes.has;
  passed = passes.passed;
}

pub passes_at : (text : List ℕ) (extent : Extent) → HasExtent text extent →
    (100000 < extent.lines) ⊎ (262144 < extent.line) → HasPassedLimit text
passes_at text extent has passed = record {
  begin = text;
  behind = [];
  is = sym (append-nil text);
  extent = extent;
  has = has;
  passed = passed;
}

pub passed_begins : (text begin more : List ℕ) → text ≡ begin ++ more → HasPassedLimit begin →
    HasPassedLimit text
passed_begins text begin more is passes =
    subst HasPassedLimit (sym is) (passes_more begin more passes)

some_fault : (fault : ℕ × ScriptError) (found : Option (ℕ × ScriptError)) → found ≡ Some fault →
    found ≡ None → ⊥
some_fault fault found is none = grind (arith, common_steps)

-- ---- what is reported

-- a fault stands at the first of these lines, or behind it
at_or_behind : (o : Option ScriptError) (k n : ℕ) (e : ScriptError)
    (rest : Option (ℕ × ScriptError)) → (rest ≡ Some (n, e) → suc k ≤ n) →
    option_map_or (λ x. Some (k, x)) o rest ≡ Some (n, e) → k ≤ n
at_or_behind None k n e rest later is = omega (arith, later is)
at_or_behind (Some x) k n e rest later is =
    omega (arith, ap (λ o. option_map_or (λ p. p.0) o 0) is)

none_or_here : (b : Bool) (k n : ℕ) (e : ScriptError) → ◌≡◌ {A = Option (ℕ × ScriptError)}
    (if b then Some (k, BadConfiguration) else None) (Some (n, e)) → k ≤ n
none_or_here true k n e is = omega (arith, ap (λ o. option_map_or (λ p. p.0) o 0) is)
none_or_here false k n e is = absurd (some_fault (n, e) None is refl)

fault_behind : (before : ParserState) (k : ℕ) (lines : List (List ℕ)) (n : ℕ) (e : ScriptError) →
    script_fault before k lines ≡ Some (n, e) → k ≤ n
fault_behind before k [] n e is = none_or_here (is_none before.configs) k n e is
fault_behind before k (line ∷ lines) n e is =
    at_or_behind (numbered_fault before k line) k n e
    (script_fault (after_line before line) (suc k) lines)
    (fault_behind (after_line before line) (suc k) lines n e) is

-- what is reported at a line
pub reported_at : (faults : Bool) (before : ParserState) (n : ℕ) (line : List ℕ)
    (lines all : List (List ℕ)) (e : ScriptError) →
    (e ≢ OutOfMemory → numbered_fault before n line ≡ Some e) →
    script_fault before n (line ∷ lines) ≡ script_fault (start faults) 1 all → 0 < n →
    n + length (line ∷ lines) ≡ 1 + length all → IsReported faults all n e
reported_at faults before n line lines all e met same above count = record {
  least = λ other. sym same ∙ (rw (met other) refl);
  begun = λ is. record {
    above = above;
    below = omega (arith, count);
    sound = λ m x at. fault_behind before n (line ∷ lines) m x (same ∙ at);
  };
}

-- .. and behind the last, where there is no configuration
pub reported_end : (faults : Bool) (before : ParserState) (n : ℕ) (all : List (List ℕ)) →
    before.configs ≡ None → script_fault before n [] ≡ script_fault (start faults) 1 all →
    IsReported faults all n BadConfiguration
reported_end faults before n all none same =
    record { least = λ other. sym same ∙ (rw none refl); begun = λ is. absurd (cc) }
