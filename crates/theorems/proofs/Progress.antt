-- A stretch with an entry for every worker changes something, passes the token while nobody carries anything, or every worker
-- has ended. Both are counted, and there is an end to both (`Passes`).
use mathlib.Core.Path.{◌≡◌, refl, sym, ap, ◌∙◌}
use mathlib.Core.Bool.{true}
use mathlib.Core.List.{List, [], ◌∷◌, ◌++◌}
use mathlib.Core.Logic.{◌⊎◌, inl, inr, ⊎_elim, by_cases}
use Prim.Native.Nat.{ℕ, suc, ◌+◌, ◌≤◌, ◌<◌}
use native.Mathlib.Omega.{arith}
use native.Mathlib.Decide.{dec_lt}
use lib.ListN.{length, get_or-eq_default}
use Rattle.laws.specs.Blocks.{laid}
use Rattle.laws.specs.Sum.{sum, hit}
use Rattle.laws.proofs.Sum.{sum_at, sum_zero_each, either_positive, hit_equal}
use Rattle.graph.specs.Graph.{Graph}
use Rattle.machine.specs.Run.{carried}
use Rattle.machine.specs.Machine.{Setting, State, Entry, Worker, idle, ended, worker, carried_by, carried_all, stopped, all_ended, passes, turn, turns}
use Rattle.machine.specs.Accepted.{Accepted}
use Rattle.machine.specs.Sound.{holds, waits, Sound}
use Rattle.machine.specs.Move.{Quiet, gone, waiting, unable}
use Rattle.machine.specs.Demand3.{entries_of, AllHave, joined}
use Rattle.theorems.proofs.Facts.{there}
use Rattle.theorems.proofs.Move.{Counted, nothing, passing, moving, move, moved_one}
use Rattle.theorems.proofs.Kept.{sound_turn, none_turn}
use Rattle.theorems.proofs.Start.{sound_turns}
use Rattle.theorems.proofs.Passes.{passes_left, pass_uses, reserve, reserve_limit, reserve_carried, reserve_none}
use Rattle.theorems.proofs.Ended.{ended_if, ended_turns}

-- the turns that changed something
abbrev pub moved : State → ℕ
moved s = s.counts.moved

-- From s to s' turns changed something, or passed the token while nobody carried anything: so many in all.
abbrev pub Spent : ℕ → State → ℕ → State → Type 0
Spent W s k s' = moved s + reserve W s' + k ≤ moved s' + reserve W s

-- k did, or all have ended
abbrev pub Done : ℕ → State → ℕ → State → Type 0
Done W s k s' = (all_ended s'.workers ≡ true) ⊎ Spent W s k s'

-- ---- every worker is quiet

module _ {s : State} where
  quiet_carries : {b : ℕ} {w : Worker} → Quiet s b w → carried_by w ≡ 0
  unfolding carried sum
  quiet_carries gone = refl
  quiet_carries waiting = refl
  quiet_carries (unable h k) = refl

  quiet_holds : {b : ℕ} {w : Worker} (a : ℕ) → Quiet s b w → holds a w ≡ 0
  quiet_holds a gone = refl
  quiet_holds a waiting = refl
  quiet_holds a (unable h k) = refl

  -- the holder has ended, and when worker 0 has, every worker has
  quiet_holder : {b : ℕ} {w : Worker} → Quiet s b w → b ≡ s.ring.holder → waits w ≡ 0 → stopped w ≡ 1
  quiet_holder gone e k = refl
  quiet_holder waiting e k = absurd (omega arith)
  quiet_holder (unable h n) e k = absurd (n e)

  quiet_ended : {b : ℕ} {w : Worker} → Quiet s b w → stopped (worker s 0) ≡ 1 → waits w ≡ 0 → there w ≡ 0
  quiet_ended gone h k = refl
  quiet_ended waiting h k = absurd (omega arith)
  quiet_ended (unable p n) h k = absurd (omega (arith, p, h))

module _ {G : Graph} {starts : List ℕ} {W : ℕ} {g : Setting} {s : State} (A : Accepted G starts W g) (S : Sound G starts W g s)
    (quiet_below : (b : ℕ) → b < W → Quiet s b (worker s b)) where
  quiet : (b : ℕ) → Quiet s b (worker s b)
  quiet b =
      by_cases (dec_lt b W)
      (λ (h : b < W). quiet_below b h)
      (λ (h : ¬ (b < W)). let e : worker s b ≡ ended = get_or-eq_default s.workers ended (omega (arith, S.sized.workers_length)) in rw e gone)

  -- then nobody is in a cell, so nobody waits
  nobody_waits : (b : ℕ) → waits (worker s b) ≡ 0
  nobody_waits b = omega (arith, S.cells b, sum_zero_each (holds b) ended s.workers (λ (i : ℕ). quiet_holds b (quiet i)))

  all_ended_lem : all_ended s.workers ≡ true
  all_ended_lem =
      let h = s.ring.holder in
      let at_holder : stopped (worker s h) ≡ 1 = quiet_holder (quiet h) refl (nobody_waits h) in
      let there : h < length s.workers = omega (arith, S.sized.workers_length, S.holder_below) in
      let first = S.first_ended (omega (arith, at_holder, sum_at stopped ended s.workers h (worker s h) refl there)) in
      ended_if s.workers (λ (b : ℕ). quiet_ended (quiet b) first.0 (nobody_waits b))

-- ---- over lists of turns

-- turns laid end to end
pub turns_append : (G : Graph) (g : Setting) (s : State) (xs ys : List Entry) → turns G g s (xs ++ ys) ≡ turns G g (turns G g s xs) ys
unfolding turns
turns_append G g s [] ys = refl
turns_append G g s (x ∷ xs) ys = turns_append G g (turn G g s x) xs ys

module _ {G : Graph} {starts : List ℕ} {W : ℕ} {g : Setting} (A : Accepted G starts W g) where
  -- moved never falls, and rises by 1 a turn at most; so does handed
  turn_counts : {s : State} → Sound G starts W g s → (x : Entry)
      → (moved s ≤ moved (turn G g s x)) × (moved (turn G g s x) ≤ suc (moved s)) × ((turn G g s x).counts.handed ≤ suc s.counts.handed)
  turn_counts {s} S x = by (moved_one A S (move A S x))
    where
      by : {s' : State} → Counted s x.worker s'
          → (moved s ≤ moved s') × (moved s' ≤ suc (moved s)) × (s'.counts.handed ≤ suc s.counts.handed)
      by (nothing h) = omega arith
      by (passing q e h) = omega arith
      by (moving s' m h r) = omega (arith, m, h)

  -- handed and moved rise by 1 a turn at most
  pub counts_grow : {s : State} → Sound G starts W g s → (x : Entry)
      → ((turn G g s x).counts.handed ≤ suc s.counts.handed) × ((turn G g s x).counts.moved ≤ suc s.counts.moved)
  counts_grow S x = ((turn_counts S x).2, (turn_counts S x).1)

  -- what a turn of b does: nothing; it passes the token while references are carried; or something is spent
  data Effect (s : State) (b : ℕ) : State → Type 0 where
    idles : Quiet s b (worker s b) → Effect s b s
    turns_token : 0 < carried_all s → worker s b ≡ idle → Effect s b (passes s b)
    spends : (s' : State) → Spent W s 1 s' → Effect s b s'

  effect : {s : State} → Sound G starts W g s → (x : Entry) → Effect s x.worker (turn G g s x)
  effect {s} S x = by (moved_one A S (move A S x)) (sound_turn A S x) (none_turn A S x)
    where
      by : {s' : State} → Counted s x.worker s' → Sound G starts W g s' → (carried_all s ≡ 0 → carried_all s' ≡ 0) → Effect s x.worker s'
      by (nothing h) S' none = idles h
      by (passing q e h) S' none =
          by_cases (dec_lt 0 (carried_all s))
          (λ (p : 0 < carried_all s). turns_token p q)
          (λ (p : ¬ (0 < carried_all s)).
          let z : carried_all s ≡ 0 = omega arith in
          let b = x.worker in
          spends (passes s b) (omega (arith, reserve_none W s z, reserve_none W (passes s b) z, pass_uses A S b e h)))
      by (moving s' m h r) S' none =
          by_cases (dec_lt 0 (carried_all s))
          (λ (p : 0 < carried_all s). spends s' (omega (arith, m, reserve_carried W s p, reserve_limit W s' S'.holder_below)))
          (λ (p : ¬ (0 < carried_all s)).
          let z : carried_all s ≡ 0 = omega arith in
          let same : reserve W s' ≡ reserve W s = reserve_none W s' (none z) ∙ ap (passes_left W) (r z) ∙ sym (reserve_none W s z) in
          spends s' (omega (arith, m, same)))

  -- nothing is taken back
  turn_spent : {s : State} → Sound G starts W g s → (x : Entry) → Spent W s 0 (turn G g s x)
  turn_spent {s} S x = by (effect S x)
    where
      by : {s' : State} → Effect s x.worker s' → Spent W s 0 s'
      by (idles h) = omega arith
      by (turns_token p q) = omega (arith, reserve_carried W s p, reserve_carried W (passes s x.worker) p)
      by (spends s' h) = omega (arith, h)

  turns_spent : {s : State} → Sound G starts W g s → (xs : List Entry) → Spent W s 0 (turns G g s xs)
  unfolding turns
  turns_spent S [] = omega arith
  turns_spent {s} S (x ∷ xs) = omega (arith, turn_spent S x, turns_spent {s = turn G g s x} (sound_turn A S x) xs)

  -- worker b carries nothing, and is quiet where nobody carries anything
  abbrev Dull : State → ℕ → Type 0
  Dull s b = (carried_by (worker s b) ≡ 0) × (carried_all s ≡ 0 → Quiet s b (worker s b))

  abbrev DullOrSpent : State → List Entry → Type 0
  DullOrSpent s xs = ((b : ℕ) → 0 < entries_of b xs → Dull s b) ⊎ Spent W s 1 (turns G g s xs)

  -- a list of turns spends something, or each of its workers is dull
  dull_or_spent : {s : State} → Sound G starts W g s → (xs : List Entry) → DullOrSpent s xs
  unfolding turns sum carried
  dull_or_spent S [] = inl (λ (b : ℕ) (h : 0 < 0). absurd (omega arith))
  dull_or_spent {s} S (x ∷ xs) = by (effect S x) (sound_turn A S x) (dull_or_spent {s = turn G g s x} (sound_turn A S x) xs)
    where
      more : Dull s x.worker → ((b : ℕ) → 0 < entries_of b xs → Dull s b) → (b : ℕ) → 0 < hit b x.worker + entries_of b xs → Dull s b
      more d rest b h =
          ⊎_elim
          (λ (p : 0 < hit b x.worker). rw (hit_equal b x.worker p) d)
          (λ (p : 0 < entries_of b xs). rest b p)
          (either_positive (hit b x.worker) (entries_of b xs) h)

      by : {s' : State} → Effect s x.worker s' → Sound G starts W g s' → DullOrSpent s' xs
          → ((b : ℕ) → 0 < hit b x.worker + entries_of b xs → Dull s b) ⊎ Spent W s 1 (turns G g s' xs)
      by (idles h) S' (inl rest) = inl (more (quiet_carries h, λ z. h) rest)
      by (idles h) S' (inr l) = inr l
      by (turns_token p q) S' (inl rest) =
          inl
          (more (ap carried_by q, λ z. absurd (omega (arith, p, z))) (λ (b : ℕ) (h : 0 < entries_of b xs). ((rest b h).0, λ z. absurd (omega (arith, p, z)))))
      by (turns_token p q) S' (inr l) =
          inr (omega (arith, l, reserve_carried W s p, reserve_carried W (passes s x.worker) p))
      by (spends s' h) S' ih = inr (omega (arith, h, turns_spent S' xs))

  -- one stretch
  stretch_spends : {s : State} → Sound G starts W g s → (xs : List Entry) → ((b : ℕ) → b < W → 0 < entries_of b xs)
      → (all_ended s.workers ≡ true) ⊎ Spent W s 1 (turns G g s xs)
  unfolding carried sum
  stretch_spends {s} S xs each =
      ⊎_elim
      (λ (q : (b : ℕ) → 0 < entries_of b xs → Dull s b).
      let none : carried_all s ≡ 0 = sum_zero_each carried_by ended s.workers (λ (b : ℕ).
      by_cases (dec_lt b W)
      (λ (h : b < W). (q b (each b h)).0)
      (λ (h : ¬ (b < W)). ap carried_by (get_or-eq_default s.workers ended (omega (arith, S.sized.workers_length)))))
      in
      inl (all_ended_lem A S (λ (b : ℕ) (h : b < W). (q b (each b h)).1 none)))
      (λ (q : Spent W s 1 (turns G g s xs)). inr q)
      (dull_or_spent S xs)

  -- stretches laid end to end
  pub stretches_spend : {s : State} → Sound G starts W g s → (xss : List (List Entry)) → AllHave W xss
      → Done W s (length xss) (turns G g s (joined xss))
  unfolding joined laid turns
  stretches_spend {s} S [] h = inr (omega arith)
  stretches_spend {s} S (xs ∷ xss) h =
      by (stretch_spends S xs (λ (b : ℕ) (p : b < W). h.0 b (omega arith))) (stretches_spend {s = turns G g s xs} (sound_turns A S xs) xss h.1)
    where
      by : (all_ended s.workers ≡ true) ⊎ Spent W s 1 (turns G g s xs)
          → Done W (turns G g s xs) (length xss) (turns G g (turns G g s xs) (joined xss)) → Done W s (suc (length xss)) (turns G g s (xs ++ joined xss))
      by (inl e) ih = inl (rw (ended_turns G g s e (xs ++ joined xss)) e)
      by (inr m) (inl e) = inl (rw (turns_append G g s xs (joined xss)) e)
      by (inr m) (inr l) = inr (rw (turns_append G g s xs (joined xss)) (omega arith))
