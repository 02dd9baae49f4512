-- A number in a text: the digits passed so far, and what the byte behind them decides.
use mathlib.Core.Path.{◌≡◌, refl, ap, sym, ◌∙◌}
use mathlib.Core.Bool.{Bool, true, false}
use mathlib.Core.List.{List, [], ◌∷◌}
use mathlib.Core.Logic.{◌⊎◌, inl, inr}
use Prim.Native.Nat.{ℕ, zero, suc, ◌+◌, ◌-◌, ◌*◌, ◌^◌, ◌≤◌, ◌<◌}
use native.Mathlib.Nat.{add-zero, pow-suc, pow-le-pow_right}
use native.Mathlib.Numerals.{add-one}
use native.Mathlib.Omega.{arith}
use lib.ListN.{length, get_or, drop, length-drop}
use lib.Seq.{drop-cons, drop-drop, get_or-drop}
use lib.Dec.{ltb}
use borrow.Author.Tests.{lt-ltb, le-leb, lt-leb, eq-eqb, ne_eqb}
use Rattle.laws.specs.Choice.{both}
use Rattle.matrix.specs.Layout.{Digit, value_from}
use Rattle.matrix.specs.Reading.{is_digit, digits, lead, number, stops}
use Rattle.matrix.specs.Steps.{FieldAt, Digits, four_value}

-- what is not good is not good
pub never : {P : Type 0} → false ≡ true → P
never z = let q : ◌≡◌ {A = ℕ} 0 1 = cc in absurd (omega arith)

-- the first k bytes are digits, and their value is this
pub record Scanning (t : List ℕ) (k value : ℕ) : Type 0 where
  pub left : ℕ
  pub sum : k + left ≡ 10
  pub there : k ≤ length t
  pub long : length (lead t) ≡ k + length (digits left (drop k t))
  pub worth : number t ≡ value_from value (digits left (drop k t))
  pub small : value < 10 ^ k

pub scanning_start : (t : List ℕ) → Scanning t 0 0
scanning_start t = record { left = 10; sum = refl; there = omega arith; long = omega arith; worth = refl; small = omega arith }

-- no digit is next
pub digits_none : (k : ℕ) (t : List ℕ) → is_digit (get_or t 0 0) ≡ false → digits k t ≡ []
unfolding digits
digits_none zero t h = refl
digits_none (suc k) [] h = refl
digits_none (suc k) (b ∷ t) h = rw h

pub digits_one : (k b : ℕ) (t : List ℕ) → 48 ≤ b → b ≤ 57 → digits (suc k) (b ∷ t) ≡ b ∷ digits k t
unfolding digits
digits_one k b t h g = rw (le-leb 48 b h, le-leb b 57 g)

module _ {t : List ℕ} {k value : ℕ} (a : Scanning t k value) where
  -- ten digits are below this
  pub value_small : value < 10000000000
  value_small = omega (arith, a.small, pow-le-pow_right {n = 10} (omega arith) {i = k} {j = 10} (omega (arith, a.sum)))

  -- one digit more
  pub scanning_next : {b : ℕ} → k < length t → b ≡ get_or t k 0 → 48 ≤ b → b ≤ 57 → (k ≡ 10 → ⊥) → Scanning t (k + 1) (value * 10 + (b - 48))
  unfolding value_from
  scanning_next {b} h e low high more = go a.left refl
    where
      go : (l : ℕ) → a.left ≡ l → Scanning t (k + 1) (value * 10 + (b - 48))
      go zero q = absurd (more (omega (arith, q, a.sum)))
      go (suc l) q =
          let d : digits a.left (drop k t) ≡ b ∷ digits l (drop (k + 1) t) =
          rw (q, drop-cons t k 0 h, ← e, add-one k) (digits_one l b (drop (suc k) t) low high) in
          record {
            left = l;
            sum = omega (arith, q, a.sum);
            there = omega arith;
            long = omega (arith, a.long, ap length d);
            worth = a.worth ∙ ap (value_from value) d;
            small = rw (add-one k) (omega (arith, a.small, pow-suc 10 k));
          }

  -- the digits end here
  pub record Ended : Type 0 where
    pub lead_is : length (lead t) ≡ k
    pub number_is : number t ≡ value

  ended : digits a.left (drop k t) ≡ [] → Ended
  unfolding value_from
  ended e = record { lead_is = omega (arith, a.long, ap length e); number_is = a.worth ∙ ap (value_from value) e }

  head_is : get_or (drop k t) 0 0 ≡ get_or t k 0
  head_is = get_or-drop k t 0 0 ∙ ap (λ (j : ℕ). get_or t j 0) (add-zero k)

  -- since no digit is next, or since there are ten
  pub ended_other : (get_or t k 0 < 48) ⊎ (57 < get_or t k 0) → Ended
  ended_other (inl h) = ended (digits_none a.left (drop k t) (rw (head_is, lt-leb 48 (get_or t k 0) h)))
  ended_other (inr h) = ended (digits_none a.left (drop k t) (rw (head_is, le-leb 48 (get_or t k 0) (omega arith), lt-leb (get_or t k 0) 57 h)))

  pub ended_full : k ≡ 10 → Ended
  unfolding digits
  ended_full h = let z : a.left ≡ 0 = omega (arith, a.sum) in ended (rw z)

  -- a number, with the wanted byte behind it
  pub stops_good : Ended → {stop : ℕ} → get_or t k 0 ≡ stop → (k ≡ 0 → ⊥) → stops stop t ≡ true
  stops_good d {stop} e some = rw (d.lead_is, lt-ltb 0 k (omega (arith, some)), eq-eqb (get_or t k 0) stop e)

  -- another byte, or no digit
  pub stops_other : Ended → {stop : ℕ} → (get_or t k 0 ≡ stop → ⊥) → stops stop t ≡ false
  stops_other d {stop} h = rw (d.lead_is, ne_eqb (get_or t k 0) stop h) (both_false (ltb 0 k))
    where
      both_false : (t : Bool) → both t false ≡ false
      both_false true = refl
      both_false false = refl

  pub stops_none : Ended → (stop : ℕ) → k ≡ 0 → stops stop t ≡ false
  stops_none d stop h = let z : length (lead t) ≡ 0 = omega (arith, d.lead_is) in rw z

pub field_good : {text t : List ℕ} {at k value : ℕ} → t ≡ drop at text → (a : Scanning t k value) → Ended a → {stop : ℕ} → get_or t k 0 ≡ stop → k < length t
    → (k ≡ 0 → ⊥) → FieldAt text at stop value (at + k + 1)
field_good {text} {t} {at} {k} r a d {stop} e h some =
    let n : length (lead t) ≡ k = d.lead_is in
    let j : at + k + 1 ≡ at + suc k = omega arith in
    record {
      good = rw (← r) (stops_good a d e some);
      value_is = rw (← r) (sym d.number_is);
      small = value_small a;
      next_is = rw (j, ← r, n, r) (sym (drop-drop (suc k) at text));
      there = omega (arith, h, ap length r, length-drop at text);
    }

-- ---- four or five digits, looked at all at once

module _ {t : List ℕ} {k value : ℕ} (a : Scanning t k value) where
  -- one digit more, of the first ten
  one_on : {b : ℕ} (j w : ℕ) → j ≡ k + 1 → w ≡ value * 10 + (b - 48) → k < length t → b ≡ get_or t k 0 → Digit b → k < 10 → Scanning t j w
  one_on j w p q h e d l = rw (p, q) (scanning_next a h e d.low d.high (λ z. omega arith))

module _ (text : List ℕ) (at : ℕ) (room : at + 6 ≤ length text) where
  abbrev byte : ℕ → ℕ
  byte k = get_or text (at + k) 0

  here : (k : ℕ) → get_or (drop at text) k 0 ≡ byte k
  here k = get_or-drop at text k 0

  roomy : 6 ≤ length (drop at text)
  roomy = omega (arith, length-drop at text)

  module _ {a b c d : ℕ} (ea : a ≡ get_or text at 0) (eb : b ≡ byte 1) (ec : c ≡ byte 2) (ed : d ≡ byte 3) (ds : Digits a b c d) where
    four_on : Scanning (drop at text) 4 (four_value a b c d)
    four_on =
        let e0 : a ≡ get_or (drop at text) 0 0 = ea ∙ ap (λ (j : ℕ). get_or text j 0) (sym (add-zero at)) ∙ sym (here 0) in
        let s₁ = one_on (scanning_start (drop at text)) 1 (a - 48) refl (omega arith) (omega (arith, roomy)) e0 ds.first (omega arith) in
        let s₂ = one_on s₁ 2 ((a - 48) * 10 + (b - 48)) refl refl (omega (arith, roomy)) (eb ∙ sym (here 1)) ds.second (omega arith) in
        let s₃ = one_on s₂ 3 (((a - 48) * 10 + (b - 48)) * 10 + (c - 48)) refl refl (omega (arith, roomy)) (ec ∙ sym (here 2)) ds.third (omega arith) in
        one_on s₃ 4 (four_value a b c d) refl refl (omega (arith, roomy)) (ed ∙ sym (here 3)) ds.fourth (omega arith)

    -- the wanted byte is behind them
    stopped_on : {k value stop : ℕ} → Scanning (drop at text) k value → byte k ≡ stop → stop < 48 → k < 6 → (k ≡ 0 → ⊥) → FieldAt text at stop value (at + k + 1)
    stopped_on {k} s e l h some =
        let q : get_or (drop at text) k 0 ≡ _ = here k ∙ e in
        field_good refl s (ended_other s (inl (omega (arith, q, l)))) q (omega (arith, roomy)) some

    pub four_field : {stop : ℕ} → byte 4 ≡ stop → stop < 48 → FieldAt text at stop (four_value a b c d) (at + 5)
    four_field e l = let j : at + 4 + 1 ≡ at + 5 = omega arith in rw j at (stopped_on four_on e l (omega arith) (λ z. omega arith))

    pub five_field : {e stop : ℕ} → e ≡ byte 4 → Digit e → byte 5 ≡ stop → stop < 48 → FieldAt text at stop (four_value a b c d * 10 + (e - 48)) (at + 6)
    five_field {e} p q r l =
        let j : at + 5 + 1 ≡ at + 6 = omega arith in
        let s = one_on four_on 5 (four_value a b c d * 10 + (e - 48)) refl refl (omega (arith, roomy)) (p ∙ sym (here 4)) q (omega arith) in
        rw j at (stopped_on s r l (omega arith) (λ z. omega arith))
