-- How many passes of the token are left where nobody carries anything: down to worker 0, and then a round, or two where a
-- worker above the holder is black. While references are carried the most are kept in reserve.
use mathlib.Core.Path.{◌≡◌, refl, sym, subst}
use mathlib.Core.List.{List}
use Prim.Native.Nat.{ℕ, zero, suc, ◌+◌, ◌-◌, ◌*◌, ◌≤◌, ◌<◌}
use native.Mathlib.Omega.{arith}
use Rattle.laws.specs.Span.{span}
use Rattle.graph.specs.Graph.{Graph}
use Rattle.machine.specs.Ring.{Ring, passed_on, black_below, black_above}
use Rattle.machine.specs.Machine.{Setting, State, carried_all, passes}
use Rattle.machine.specs.Accepted.{Accepted}
use Rattle.machine.specs.Sound.{Sound}
use Rattle.machine.specs.Move.{Passing}
use Rattle.theorems.proofs.Ring.{dark, sent_below, sent_above, passed_below, passed_above}

-- the passes behind the token's next coming back, where so many are black at the holder or below, the token with them, and so
-- many above
abbrev pub circuits : ℕ → ℕ → ℕ → ℕ
circuits zero k W = 0
circuits (suc j) zero W = W
circuits (suc j) (suc k) W = W + W

abbrev pub passes_left : ℕ → Ring → ℕ
passes_left W r = r.holder + circuits (black_below r) (black_above W r) W

-- the most
abbrev pub most_passes : ℕ → ℕ
most_passes W = 3 * W - 2

circuits_limit : (j k W h : ℕ) → h < W → (0 < k → suc h < W) → h + circuits j k W ≤ most_passes W
circuits_limit zero k W h l b = omega arith
circuits_limit (suc j) zero W h l b = omega arith
circuits_limit (suc j) (suc k) W h l b = omega (arith, b (omega arith))

-- no number is black where there is none
some_above : (g : ℕ → ℕ) (f k : ℕ) → 0 < span g f k → 0 < k
unfolding span
some_above g f zero h = absurd (omega arith)
some_above g f (suc k) h = omega arith

pub passes_limit : (W : ℕ) (r : Ring) → r.holder < W → passes_left W r ≤ most_passes W
passes_limit W r h =
    circuits_limit (black_below r) (black_above W r) W r.holder h
    (λ (p : 0 < black_above W r). omega (arith, some_above (dark r) (suc r.holder) (W - suc r.holder) p))

-- ---- a pass uses one up

-- they depend only on whether some are black
circuits_same : (j j' k W : ℕ) → j' ≤ j → j ≤ 2 * j' → circuits j' k W ≡ circuits j k W
circuits_same zero zero k W h l = refl
circuits_same zero (suc j') k W h l = absurd (omega arith)
circuits_same (suc j) zero k W h l = absurd (omega arith)
circuits_same (suc j) (suc j') zero W h l = refl
circuits_same (suc j) (suc j') (suc k) W h l = refl

-- worker 0 begins a round
circuits_less : (j k W : ℕ) → 0 < j → 0 < W → suc (W - 1 + circuits k 0 W) ≡ circuits j k W
circuits_less zero k W h w = absurd (omega arith)
circuits_less (suc j) zero W h w = omega arith
circuits_less (suc j) (suc k) W h w = omega arith

module _ {G : Graph} {starts : List ℕ} {W : ℕ} {g : Setting} {s : State} (A : Accepted G starts W g) (S : Sound G starts W g s) where
  uses : (b : ℕ) → s.ring.holder ≡ b → Passing s b → suc (passes_left W (passed_on W b s.ring)) ≡ passes_left W s.ring
  uses zero e h =
      let r = s.ring in
      let below = sent_below W r A.some_worker (omega (arith, S.sized.colours_length, A.some_worker)) e in
      rw (below, sent_above W r A.some_worker)
      (omega (arith, e, circuits_less (black_below r) (black_above W r) W h A.some_worker))
  uses (suc b) e h =
      let r = s.ring in
      let low : suc b < W = omega (arith, S.holder_below, e) in
      let below = passed_below W b r e in
      rw (passed_above W b r e low (omega (arith, S.sized.colours_length)))
      (omega (
        arith,
        e,
        circuits_same (black_below r) (black_below (passed_on W (suc b) r)) (black_above W r) W below.0 below.1,
      ))

  pub pass_uses : (b : ℕ) → s.ring.holder ≡ b → Passing s b → suc (passes_left W (passes s b).ring) ≡ passes_left W s.ring
  pass_uses b e h =
      subst (λ (n : ℕ). suc (passes_left W (passed_on n b s.ring)) ≡ passes_left W s.ring) (sym S.sized.workers_length) (uses b e h)

-- ---- in reserve

abbrev pub reserve_by : ℕ → ℕ → Ring → ℕ
reserve_by zero W r = passes_left W r
reserve_by (suc k) W r = most_passes W

-- by whether references are carried
abbrev pub reserve : ℕ → State → ℕ
reserve W s = reserve_by (carried_all s) W s.ring

by_limit : (k W : ℕ) (r : Ring) → r.holder < W → reserve_by k W r ≤ most_passes W
by_limit zero W r h = passes_limit W r h
by_limit (suc k) W r h = omega arith

by_carried : (k W : ℕ) (r : Ring) → 0 < k → reserve_by k W r ≡ most_passes W
by_carried zero W r h = absurd (omega arith)
by_carried (suc k) W r h = refl

-- no more than the most, and that while references are carried
pub reserve_limit : (W : ℕ) (s : State) → s.ring.holder < W → reserve W s ≤ most_passes W
reserve_limit W s h = by_limit (carried_all s) W s.ring h

pub reserve_carried : (W : ℕ) (s : State) → 0 < carried_all s → reserve W s ≡ most_passes W
reserve_carried W s h = by_carried (carried_all s) W s.ring h

pub reserve_none : (W : ℕ) (s : State) → carried_all s ≡ 0 → reserve W s ≡ passes_left W s.ring
reserve_none W s e = rw e refl
