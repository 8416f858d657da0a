-- When two sets of entries show the same.
use Rattle.std.proofs.Common.{◌≡◌, ◌⊎◌, inl, inr, ℕ, suc, ◌<◌, ◌≤◌, List, Option, None}
use Rattle.std.proofs.Common.{refl, sym, ◌∙◌, ap, subst, arith}
use Rattle.std.proofs.lemmas.Bool.{cases_lt}
use Rattle.byte_fields.specs.{StoredKey}
use Rattle.kv_types.specs.Examples.{entry_at}
use Rattle.kv_types.specs.{Entry, IsNewest, IsSeen, IsShown, ViewShows}

module _ (S : Entry → Type 0) (at : ℕ) (key : StoredKey) where
  -- what is seen at the next number, where the key has no entry, is seen already
  pub seen_already : ((value : Option (List ℕ)) → S (entry_at key (suc at) value) → ⊥)
      → (other : Entry) → IsSeen (suc at) S other → other.key ≡ key → IsSeen at S other
  seen_already none other seen same = elim (cases_lt other.number (suc at)) [
    | inl lt ↦ (seen.0, omega (arith, lt))
    | inr ge ↦
        let le = seen.1 in
        let is : other.number ≡ suc at = omega (arith, le, ge) in
        absurd (none other.value (subst (λ n. S (entry_at key n other.value)) is
        (subst (λ k. S (entry_at k other.number other.value)) same seen.0)))
  ]

  -- at the next number, where the key has no entry, it shows the same
  pub shows_further : (value : Option (List ℕ))
      → ((other : Option (List ℕ)) → S (entry_at key (suc at) other) → ⊥)
      → ViewShows at S key value → ViewShows (suc at) S key value
  shows_further value none (inl (number, it)) = inl (
    number,
    record {
      seen = (it.seen.0, let le = it.seen.1 in omega (arith, le));
      newest = λ other seen same. it.newest other (seen_already none other seen same) same;
    },
  )
  shows_further value none (inr it) =
      inr (λ other seen same. it.0 other (seen_already none other seen same) same, it.1)

  -- an entry of the number itself is shown
  pub shows_latest : (value : Option (List ℕ)) → S (entry_at key at value)
      → ViewShows at S key value
  shows_latest value has =
      inl (at, record { seen = (has, omega arith); newest = λ other seen same. seen.1 })

  -- in a set with one entry of a key and number, the view shows one value
  pub shows_one : ((a b : Entry) → S a → S b → a.key ≡ b.key → a.number ≡ b.number → a ≡ b)
      → (v w : Option (List ℕ)) → ViewShows at S key v → ViewShows at S key w → v ≡ w
  shows_one one v w (inl (m, p)) (inl (n, q)) =
      let x = p.newest (entry_at key n w) q.seen refl in
      let y = q.newest (entry_at key m v) p.seen refl in
      let is = one (entry_at key m v) (entry_at key n w) p.seen.0 q.seen.0 refl
      (omega (arith, x, y)) in
      ap (λ (it : Entry). it.value) is
  shows_one one v w (inl (m, p)) (inr u) = absurd (u.0 (entry_at key m v) p.seen refl)
  shows_one one v w (inr u) (inl (n, q)) = absurd (u.0 (entry_at key n w) q.seen refl)
  shows_one one v w (inr u) (inr z) = u.1 ∙ sym z.1

module _ (S T : Entry → Type 0) (at : ℕ) (key : StoredKey) where
  -- sets with the same entries up to the number show the same
  pub shows_alike : (value : Option (List ℕ))
      → ((entry : Entry) → entry.number ≤ at → S entry → T entry)
      → ((entry : Entry) → entry.number ≤ at → T entry → S entry)
      → ViewShows at S key value → ViewShows at T key value
  shows_alike value to back (inl (number, it)) = inl (
    number,
    record {
      seen = (to (entry_at key number value) it.seen.1 it.seen.0, it.seen.1);
      newest = λ other seen same. it.newest other (back other seen.1 seen.0, seen.1) same;
    },
  )
  shows_alike value to back (inr it) =
      inr (λ other seen same. it.0 other (back other seen.1 seen.0, seen.1) same, it.1)

  -- S has a newer entry of the same key up to the number
  abbrev pub IsSurpassed : Entry → Type 0
  IsSurpassed entry = (newer : Entry) × S newer × (newer.key ≡ entry.key)
      × (entry.number < newer.number) × (newer.number ≤ at)

  -- a deletion, and what T has of the same key is newer
  abbrev pub IsNeedless : Entry → Type 0
  IsNeedless entry = (entry.value ≡ None)
      × ((other : Entry) → T other → other.key ≡ entry.key → entry.number < other.number)

  -- T has lost entries of S that were surpassed or are needless, and shows the same
  pub shows_fewer : (value : Option (List ℕ)) → ((entry : Entry) → T entry → S entry)
      → ((entry : Entry) → S entry → T entry ⊎ (IsSurpassed entry ⊎ IsNeedless entry))
      → ViewShows at S key value → ViewShows at T key value
  shows_fewer value back lost (inl (number, it)) =
      let mine = entry_at key number value in
      elim (lost mine it.seen.0) [
        | inl there ↦ inl (
          number,
          record {
            seen = (there, it.seen.1);
            newest = λ other seen same. it.newest other (back other seen.0, seen.1) same;
          },
        )
        | inr gone ↦ elim gone [
          | inl newer ↦
              let le = it.newest newer.0 (newer.1, newer.4) newer.2 in
              let lt = newer.3 in
              absurd (omega (arith, le, lt))
          | inr needless ↦ inr (
            λ other seen same.
                let lt = needless.1 other seen.0 same in
                let le = it.newest other (back other seen.0, seen.1) same in
                absurd (omega (arith, lt, le)),
            needless.0,
          )
        ]
      ]
  shows_fewer value back lost (inr it) =
      inr (λ other seen same. it.0 other (back other seen.0, seen.1) same, it.1)

  -- .. and what is the newest in T was the newest in S
  pub newest_before : (value : Option (List ℕ)) → ((entry : Entry) → T entry → S entry)
      → ((entry : Entry) → S entry → T entry ⊎ (IsSurpassed entry ⊎ IsNeedless entry))
      → ViewShows at S key value → (mine : Entry) → mine.key ≡ key → IsNewest at T mine
      → IsNewest at S mine
  newest_before value back lost (inl (number, it)) mine of newest =
      let was = entry_at key number value in
      let late : mine.number ≤ number =
      it.newest mine (back mine newest.seen.0, newest.seen.1) of in
      elim (lost was it.seen.0) [
        | inl there ↦
            let early : number ≤ mine.number =
            newest.newest was (there, it.seen.1) (sym of) in
            record {
              seen = (back mine newest.seen.0, newest.seen.1);
              newest = λ other seen same.
                  let le = it.newest other seen (same ∙ of) in
                  omega (arith, le, early);
            }
        | inr gone ↦ elim gone [
          | inl newer ↦
              let le = it.newest newer.0 (newer.1, newer.4) newer.2 in
              let lt = newer.3 in
              absurd (omega (arith, le, lt))
          | inr needless ↦
              let lt = needless.1 mine newest.seen.0 of in
              absurd (omega (arith, lt, late))
        ]
      ]
  newest_before value back lost (inr it) mine of newest =
      absurd (it.0 mine (back mine newest.seen.0, newest.seen.1) of)

module _ (S T : Entry → Type 0) (at : ℕ) where
  -- an entry that a set shows is shown by one with the same entries up to the number
  pub shown_in_both : (mine : Entry) → ((entry : Entry) → entry.number ≤ at → S entry → T entry)
      → ((entry : Entry) → entry.number ≤ at → T entry → S entry)
      → IsShown at S mine → IsShown at T mine
  shown_in_both mine to back it = record {
    newest = record {
      seen = (to mine it.newest.seen.1 it.newest.seen.0, it.newest.seen.1);
      newest = λ other seen same.
          it.newest.newest other (back other seen.1 seen.0, seen.1) same;
    };
    put = it.put;
  }
