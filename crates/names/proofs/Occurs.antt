-- The mentions of a text are exactly its occurrences.
use mathlib.Core.Path.{◌≡◌, sym, ap}
use mathlib.Core.Bool.{true, false}
use mathlib.Core.List.{List, [], ◌∷◌}
use mathlib.Core.Logic.{⊎_elim}
use Prim.Native.Nat.{ℕ, zero, suc, ◌+◌, ◌*◌, ◌≤◌, ◌<◌}
use native.Mathlib.Nat.{mul-le-mul_right, mul_comm}
use native.Mathlib.Omega.{arith}
use lib.ListN.{length, get_or, take, drop, length-take, length-drop}
use lib.Seq.{length-take-le}
use Rattle.laws.specs.Choice.{pick}
use Rattle.laws.specs.Sum.{sum, hit}
use Rattle.laws.specs.Test.{same}
use Rattle.laws.proofs.Sum.{hit_same, hit_equal, sum_append, either_positive}
use Rattle.laws.proofs.Test.{tested, same_equal, equal_same}
use Rattle.names.specs.Names.{Names, count, window, name_at}
use Rattle.names.specs.Mentions.{named_from, named, mentions}
use Rattle.names.specs.Occurs.{Occurs, Exact}

-- ---- what bytes name

-- a name, numbered from k on, that the bytes are and that names v
record NamesIt (N : Names) (bytes : List ℕ) (k : ℕ) (vs : List ℕ) (v : ℕ) : Type 0 where
  pub place : ℕ
  pub there : place < length vs
  pub is : bytes ≡ name_at N (k + place)
  pub object : get_or vs place 0 ≡ v

further : {N : Names} {bytes : List ℕ} {k x : ℕ} {vs : List ℕ} {v : ℕ} → NamesIt N bytes (suc k) vs v → NamesIt N bytes k (x ∷ vs) v
further {N} {bytes} {k} n =
    let e : suc k + n.place ≡ k + suc n.place = omega arith in
    let h = n.there in
    record { place = suc n.place; there = omega arith; is = rw e at n.is; object = n.object }

named_by : (N : Names) (bytes : List ℕ) (k : ℕ) (vs : List ℕ) (v : ℕ) → 0 < sum (hit v) (named_from N k vs bytes) → NamesIt N bytes k vs v
unfolding named_from sum
named_by N bytes k [] v h = absurd (omega arith)
named_by N bytes k (x ∷ vs) v h =
    ⊎_elim
    (λ (p : same bytes (name_at N k) ≡ true).
    let g : 0 < hit v x + sum (hit v) (named_from N (suc k) vs bytes) = rw p at h in
    ⊎_elim
    (λ (q : 0 < hit v x).
    let e : k + 0 ≡ k = omega arith in
    record { place = 0; there = omega arith; is = rw e (same_equal bytes (name_at N k) p); object = sym (hit_equal v x q) })
    (λ (q : 0 < sum (hit v) (named_from N (suc k) vs bytes)). further (named_by N bytes (suc k) vs v q))
    (either_positive (hit v x) (sum (hit v) (named_from N (suc k) vs bytes)) g))
    (λ (p : same bytes (name_at N k) ≡ false). further (named_by N bytes (suc k) vs v (rw p at h)))
    (tested (same bytes (name_at N k)))

by_named : (N : Names) (bytes : List ℕ) (k : ℕ) (vs : List ℕ) (i : ℕ) → i < length vs → bytes ≡ name_at N (k + i)
    → 0 < sum (hit (get_or vs i 0)) (named_from N k vs bytes)
unfolding named_from sum
by_named N bytes k [] i h e = absurd (omega arith)
by_named N bytes k (x ∷ vs) zero h e =
    let z : k + 0 ≡ k = omega arith in
    rw (equal_same bytes (name_at N k) (rw z at e)) (omega (arith, hit_same x))
by_named N bytes k (x ∷ vs) (suc i) h e =
    let z : k + suc i ≡ suc k + i = omega arith in
    let r = by_named N bytes (suc k) vs i (omega arith) (rw z at e) in
    let s = sum_append (hit (get_or vs i 0)) (pick (same bytes (name_at N k)) (x ∷ []) []) (named_from N (suc k) vs bytes) in
    omega arith

-- ---- a text

module _ (N : Names) (long : length N.bytes ≡ N.width * count N) (some : 0 < N.width) where
  -- a name has as many bytes as names have
  wide : (k : ℕ) → k < count N → length (name_at N k) ≡ N.width
  wide k h =
      length-take-le N.width (drop (k * N.width) N.bytes)
      (omega (arith, length-drop (k * N.width) N.bytes, mul-le-mul_right {m = suc k} {n = count N} N.width h, mul_comm N.width (count N)))

  occurs : (v : ℕ) (text : List ℕ) → 0 < sum (hit v) (mentions N text) → Occurs N text v
  unfolding mentions sum
  occurs v [] h = absurd (omega arith)
  occurs v (b ∷ text) h =
      ⊎_elim
      (λ (q : 0 < sum (hit v) (named N (take N.width (b ∷ text)))).
      let n = named_by N (take N.width (b ∷ text)) 0 N.objects v q in
      let z : 0 + n.place ≡ n.place = omega arith in
      let e = rw z at n.is in
      record {
        place = 0;
        number = n.place;
        there = n.there;
        inside = omega (arith, ap length e, wide n.place n.there, length-take N.width (b ∷ text));
        spells = e;
        names = n.object;
      })
      (λ (q : 0 < sum (hit v) (mentions N text)).
      let o = occurs v text q in
      let i = o.inside in
      record {
        place = suc o.place;
        number = o.number;
        there = o.there;
        inside = omega arith;
        spells = o.spells;
        names = o.names;
      })
      (either_positive (sum (hit v) (named N (take N.width (b ∷ text)))) (sum (hit v) (mentions N text))
      (omega (arith, h, sum_append (hit v) (named N (take N.width (b ∷ text))) (mentions N text))))

  mentioned : (k : ℕ) → k < count N → (text : List ℕ) (p : ℕ) → p + N.width ≤ length text → window N.width text p ≡ name_at N k
      → 0 < sum (hit (get_or N.objects k 0)) (mentions N text)
  unfolding mentions sum
  mentioned k h [] p l e = absurd (omega arith)
  mentioned k h (b ∷ text) zero l e =
      let z : 0 + k ≡ k = omega arith in
      omega (
        arith,
        by_named N (take N.width (b ∷ text)) 0 N.objects k h (rw z e),
        sum_append (hit (get_or N.objects k 0)) (named N (take N.width (b ∷ text))) (mentions N text),
      )
  mentioned k h (b ∷ text) (suc p) l e =
      omega (
        arith,
        mentioned k h text p (omega arith) e,
        sum_append (hit (get_or N.objects k 0)) (named N (take N.width (b ∷ text))) (mentions N text),
      )

  pub exact : (text : List ℕ) → Exact N text
  exact text v = (
    occurs v text,
    λ (o : Occurs N text v). rw o.names at (mentioned o.number o.there text o.place o.inside o.spells),
  )
