-- One text behind another, in a buffer of which every other byte stays.
use mathlib.Core.Path.{◌≡◌, sym, ap, subst, ◌∙◌}
use mathlib.Core.List.{List, [], ◌++◌, append_assoc}
use Prim.Native.Nat.{ℕ, ◌+◌, ◌≤◌}
use native.Mathlib.Nat.{add-zero}
use native.Mathlib.Omega.{arith}
use lib.ListN.{length, take, drop, length-append, length-drop, take-append-drop}
use lib.Seq.{length-take-le, take_at, drop-append-add, drop-drop}
use Rattle.slices.specs.Put.{Put, PutIn}

module _ {before : List ℕ} {at : ℕ} {t after : List ℕ} {end : ℕ} (p : Put before at t after end) where
  -- as many bytes as before
  pub same_long : length after ≡ length before
  same_long =
      let e = p.ends in
      let f = p.fits in
      ap length p.holds ∙ simp (length-append, length-drop) (omega (arith, length-take-le at before (omega arith)))

  front_long : length (take at before ++ t) ≡ end
  front_long =
      let e = p.ends in
      let f = p.fits in
      simp length-append (omega (arith, length-take-le at before (omega arith)))

  parted : after ≡ (take at before ++ t) ++ drop end before
  parted = p.holds ∙ sym (append_assoc (take at before) t (drop end before))

  -- what stands in front of the next text, and behind it
  pub front : take end after ≡ take at before ++ t
  front = ap (take end) parted ∙ take_at (take at before ++ t) (drop end before) end front_long

  pub behind : (k : ℕ) → drop (end + k) after ≡ drop (end + k) before
  behind k =
      ap (λ (l : List ℕ). drop (end + k) l) parted
      ∙ ap (λ (n : ℕ). drop (n + k) ((take at before ++ t) ++ drop end before)) (sym front_long)
      ∙ drop-append-add (take at before ++ t) (drop end before) k
      ∙ drop-drop k end before

-- no text
pub nothing : {before : List ℕ} {at : ℕ} → at ≤ length before → Put before at [] before at
nothing {before} {at} h = record { ends = sym (add-zero at); fits = h; holds = sym (take-append-drop at before) }

-- one text after another
pub then : {before mid after t u : List ℕ} {at end end' : ℕ} → Put before at t mid end → Put mid end u after end'
    → Put before at (t ++ u) after end'
then {before} {mid} {t = t} {u = u} {at} {end} {end'} p q =
    let e = p.ends in
    let f = q.ends in
    let g = q.fits in
    record {
      ends = simp length-append (omega arith);
      fits = omega (arith, same_long p);
      holds =
          q.holds
          ∙ ap (λ (l : List ℕ). l ++ (u ++ drop end' mid)) (front p)
          ∙ ap (λ (l : List ℕ). (take at before ++ t) ++ (u ++ l))
          (ap (λ (k : ℕ). drop k mid) f ∙ behind p (length u) ∙ ap (λ (k : ℕ). drop k before) (sym f))
          ∙ simp append_assoc;
    }

-- the same text, written another way
pub as_text : {before after t u : List ℕ} {at end : ℕ} → t ≡ u → Put before at t after end → Put before at u after end
as_text {before} {after} {at = at} {end} e p = subst (λ (l : List ℕ). Put before at l after end) e p

pub as_text_in : {m : ℕ} {before after t u : List ℕ} {at end : ℕ} → t ≡ u → PutIn m before at t after end
    → PutIn m before at u after end
as_text_in e p = record { put = as_text e p.put; low = p.low }

-- a text of so many bytes at most, and one of exactly its length
pub within : {before after t : List ℕ} {at end : ℕ} (m : ℕ) → length t ≤ m → Put before at t after end
    → PutIn m before at t after end
within m h p = let e = p.ends in record { put = p; low = omega arith }

pub exactly : {before after t : List ℕ} {at end : ℕ} → Put before at t after end → PutIn (length t) before at t after end
exactly {t = t} p = within (length t) (omega arith) p

module _ {m : ℕ} {before mid t : List ℕ} {at end : ℕ} (p : PutIn m before at t mid end) where
  -- one after another, in the room of both
  pub then_in : {n : ℕ} {after u : List ℕ} {end' : ℕ} (k : ℕ) → m + n ≤ k → PutIn n mid end u after end'
      → PutIn k before at (t ++ u) after end'
  then_in k h q = let a = p.low in let b = q.low in record { put = then p.put q.put; low = omega arith }

  -- the room that is left
  pub room_left : (n : ℕ) → at + (m + n) ≤ length before → end + n ≤ length mid
  room_left n h = let a = p.low in omega (arith, same_long p.put)
