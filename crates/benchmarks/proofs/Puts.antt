-- One put more.
use Rattle.std.proofs.Common.{◌≡◌, ◌∙◌, ℕ, zero, suc, ◌+◌, ◌-◌, ◌^◌, min, List, [], ◌∷◌, ◌++◌}
use Rattle.std.proofs.Common.{Bool, true, false, if◌then◌else◌, add-one, ap, refl, sym}
use Rattle.kv_types.specs.declared.edit.Edit.{Edit}
use Rattle.kv_types.specs.declared.edit.Edit.TheVariants.{Put}
use Rattle.benchmarks.specs.declared.work.Work.{Work}
use Rattle.benchmarks.specs.Keys.{key_text, next_seed}
use Rattle.benchmarks.specs.Stretches.{Stretches, behind_stretch, next_stretch}
use Rattle.benchmarks.specs.Works.{behind_number, behind_put, behind_puts, counts_up}
use Rattle.benchmarks.specs.Works.{drawn_number, next_put, next_puts}

-- the puts, and one more
one_put_more : (n : ℕ) (work : Work)
    → next_puts (n + 1) work ≡ next_puts n work ++ next_put (behind_puts n work) ∷ []
one_put_more n work = rw add-one refl

-- what is left behind it
behind_one_more : (n : ℕ) (work : Work)
    → behind_puts (n + 1) work ≡ behind_put (behind_puts n work)
behind_one_more n work = rw (add-one n) refl

-- of two states that differ in their numbers alone, either has these values
values_of_either : (b : Bool) (work : Work) (next random : ℕ)
    → (if b then record work { next = next } else record work { random = random }).values
    ≡ work.values
values_of_either true work next random = refl
values_of_either false work next random = refl

-- a number is drawn, and the values stay
values_kept : (work : Work) → (behind_number work).values ≡ work.values
values_kept work =
    values_of_either (counts_up work.benchmark) work (min (work.next + 1) (2 ^ 64 - 1))
    (next_seed work.random)

-- when so many puts are made, the values have the length that they had
size_kept : (n : ℕ) (work : Work) → (behind_puts n work).values.size ≡ work.values.size
size_kept zero work = refl
size_kept (suc n) work = size_kept n work

-- nor does it change when the next number is drawn
pub size_drawn : (n : ℕ) (work now drawn : Work) → now ≡ behind_puts n work
    → drawn ≡ behind_number now → drawn.values.size ≡ work.values.size
size_drawn n work now drawn at behind =
    ap (λ (w : Work). w.values.size) behind
    ∙ ap (λ (v : Stretches). v.size) (values_kept now)
    ∙ ap (λ (w : Work). w.values.size) at ∙ size_kept n work

-- what is left when the next number was drawn, and then the next stretch
pub is_behind : (n : ℕ) (work now drawn : Work) (values : Stretches)
    → now ≡ behind_puts n work → drawn ≡ behind_number now → values ≡ behind_stretch drawn.values
    → record drawn { values = values } ≡ behind_puts (n + 1) work
is_behind n work now drawn values at behind left =
    let kept : drawn.values ≡ now.values = ap (λ (w : Work). w.values) behind ∙ values_kept now in
    ap (λ (w : Work). record w { values = values }) behind
    ∙ ap (λ (v : Stretches). record (behind_number now) { values = v })
    (left ∙ ap behind_stretch kept)
    ∙ ap behind_put at ∙ sym (behind_one_more n work)

-- the puts, when that stretch was put at that number's key
pub are_next : (n : ℕ) (work now drawn : Work) (edits more : List Edit) (number : ℕ)
    → (key value : List ℕ) → now ≡ behind_puts n work → edits ≡ next_puts n work
    → drawn ≡ behind_number now → number ≡ drawn_number now → key ≡ key_text number
    → value ≡ next_stretch drawn.values → more ≡ edits ++ Put key value ∷ []
    → more ≡ next_puts (n + 1) work
are_next n work now drawn edits more number key value at so_far behind is named stretch pushed =
    let kept : drawn.values ≡ now.values = ap (λ (w : Work). w.values) behind ∙ values_kept now in
    let put : Put key value ≡ next_put now =
    ap (λ (k : List ℕ). Put k value) (named ∙ ap key_text is)
    ∙ ap (λ (v : List ℕ). Put (key_text (drawn_number now)) v) (stretch ∙ ap next_stretch kept) in
    pushed ∙ ap (λ (es : List Edit). es ++ Put key value ∷ []) so_far
    ∙ ap (λ (e : Edit). next_puts n work ++ e ∷ []) put
    ∙ ap (λ (w : Work). next_puts n work ++ next_put w ∷ []) at ∙ sym (one_put_more n work)
