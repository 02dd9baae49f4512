-- The marks are those of the starts and of the claims won: a turn that wins a claim marks an object that was unmarked, and no
-- other turn marks anything. Finished collections mark what is reachable, so they mark the same.
use mathlib.Core.Path.{◌≡◌, refl, ap, ◌∙◌}
use mathlib.Core.Bool.{Bool, true, false}
use mathlib.Core.List.{List, [], ◌∷◌, ◌++◌, append_assoc, append-nil}
use mathlib.Core.Logic.{by_cases, ◌↔◌}
use native.Mathlib.Decide.{dec_le}
use Prim.Native.Nat.{ℕ, zero, suc, ◌-◌, ◌*◌, ◌≤◌, ◌<◌}
use native.Mathlib.Omega.{arith}
use lib.ListN.{length, get_or, set}
use lib.Seq.{get_or-set_same, get_or-set_other}
use Rattle.laws.specs.Sum.{sum, hit}
use Rattle.laws.proofs.Sum.{hit_same, hit_equal, hit_at_most_one, sum_snoc, sum_below, inside, default}
use Rattle.graph.specs.Graph.{Graph, target}
use Rattle.machine.specs.Run.{Run, run, carried}
use Rattle.machine.specs.Machine.{Setting, State, Entry, Worker, idle, asking, denied, ended, given, busy, Cell, empty, from, Phase, poll, look, claim, claim_mark, worker, mark_of}
use lib.Dec.{eqb}
use Rattle.machine.specs.Ring.{Colour, white, black, colour_of}
use Rattle.machine.specs.Machine.{stopped, asks, home_turn, holder_turn, idle_turn, shares, answer, claims, look_turn, claim_turn, busy_turn, worker_turn, start, turn, turns, result}
use Rattle.machine.specs.Accepted.{Accepted}
use Rattle.machine.specs.Sound.{Marked}
use Rattle.machine.specs.Demand2.{outcome, FinishedMarks}
use Rattle.machine.specs.Owners.{claim_tells, Win, win_of, busy_wins, wins, claims_won, won_of, won_by, Owned, unclaimed, a_start, claimed, Owners}
use Rattle.theorems.proofs.Start.{sound, start_mark, start_unmarked}
use Rattle.theorems.proofs.Demand2.{marked_is}

-- the owner that a claim tells is the mark that stands there afterwards
pub owner_stands : (G : Graph) (s : State) (b v : ℕ) → v < length s.marks
    → get_or (claims (mark_of s v) G s b v).marks v 1 ≡ (claim_tells (mark_of s v) b).owner
owner_stands G s b v h = by (mark_of s v) refl
  where
    by : (x : ℕ) → mark_of s v ≡ x → get_or (claims x G s b v).marks v 1 ≡ (claim_tells x b).owner
    by zero e = get_or-set_same s.marks v (claim_mark b) 1 h
    by (suc x) e = e

-- ---- one turn

-- the marks after some claims are won: the object was unmarked, and has the winner's mark
data Wrote (ms : List ℕ) : List Win → List ℕ → Type 0 where
  nothing : Wrote ms [] ms
  one : (v b : ℕ) → get_or ms v 1 ≡ 0 → Wrote ms (record { object = v; winner = b } ∷ []) (set ms v (claim_mark b))

module _ (G : Graph) (g : Setting) (s : State) where
  wrote_look : (x b : ℕ) (c : Cell) (n k e j : ℕ) (rs : List Run) → Wrote s.marks [] (look_turn x s b c n k e j rs).marks
  wrote_look zero b c n k e j rs = nothing
  wrote_look (suc x) b c n k e j rs = nothing

  wrote_claim : (x b : ℕ) (c : Cell) (n k e j : ℕ) (rs : List Run) → mark_of s (target G e) ≡ x
      → Wrote s.marks (win_of (claim_tells x b).won (target G e) b) (claim_turn (claims x G s b (target G e)) s b c n k e j rs).marks
  wrote_claim zero b c n k e j rs m = one (target G e) b m
  wrote_claim (suc x) b c n k e j rs m = nothing

  wrote_answer : (t : Bool) (b a n : ℕ) (rs : List Run) → Wrote s.marks [] (answer t g s b a n rs).marks
  wrote_answer true b a n rs = nothing
  wrote_answer false b a n rs = nothing

  wrote_busy : (p : Phase) (rs : List Run) (b : ℕ) (c : Cell) (n : ℕ) → Wrote s.marks (busy_wins p rs G s b) (busy_turn p rs G g s b c n).marks
  wrote_busy poll rs b empty n = nothing
  wrote_busy poll rs b (from a) n = wrote_answer (shares g.cutoff n (carried rs)) b a n rs
  wrote_busy (look k) [] b c n = nothing
  wrote_busy (look k) (run e j ∷ rs) b c n = wrote_look (mark_of s (target G e)) b c n k e j rs
  wrote_busy (claim k) [] b c n = nothing
  wrote_busy (claim k) (run e j ∷ rs) b c n = wrote_claim (mark_of s (target G e)) b c n k e j rs refl

  wrote_asks : (w : Worker) (b v : ℕ) → Wrote s.marks [] (asks w s b v).marks
  wrote_asks idle b v = nothing
  wrote_asks asking b v = nothing
  wrote_asks denied b v = nothing
  wrote_asks ended b v = nothing
  wrote_asks (given rs) b v = nothing
  wrote_asks (busy empty n p rs) b v = nothing
  wrote_asks (busy (from a) n p rs) b v = nothing

  wrote_home : (c d : Colour) → Wrote s.marks [] (home_turn c d s).marks
  wrote_home white white = nothing
  wrote_home white black = nothing
  wrote_home black d = nothing

  wrote_holder : (b : ℕ) → Wrote s.marks [] (holder_turn b s).marks
  wrote_holder zero = wrote_home s.ring.token (colour_of s.ring 0)
  wrote_holder (suc b) = nothing

  wrote_idle : (k : ℕ) (t : Bool) (b v : ℕ) → Wrote s.marks [] (idle_turn k t s b v).marks
  wrote_idle (suc k) t b v = nothing
  wrote_idle zero true b v = wrote_holder b
  wrote_idle zero false b v = wrote_asks (worker s v) b v

  wrote_worker : (w : Worker) (b v : ℕ) → Wrote s.marks (wins w G s b) (worker_turn w G g s b v).marks
  wrote_worker ended b v = nothing
  wrote_worker asking b v = nothing
  wrote_worker denied b v = nothing
  wrote_worker (given rs) b v = nothing
  wrote_worker idle b v = wrote_idle (stopped (worker s 0)) (eqb b s.ring.holder) b v
  wrote_worker (busy c n p rs) b v = wrote_busy p rs b c n

  wrote : (x : Entry) → Wrote s.marks (wins (worker s x.worker) G s x.worker) (turn G g s x).marks
  unfolding turn
  wrote x = wrote_worker (worker s x.worker) x.worker x.named

-- ---- the marks are owned

-- each mark is what the claims won so far say
abbrev AllOwned : List ℕ → List Win → List ℕ → Type 0
AllOwned starts l ms = (v : ℕ) → Owned starts l v (get_or ms v 0)

-- an unmarked object is no start, and nobody won it
free : {starts : List ℕ} {l : List Win} {v x : ℕ} → Owned starts l v x → x ≡ 0 → (sum (hit v) starts ≡ 0) × (won_of v l ≡ 0)
free (unclaimed p q) e = (p, q)
free (a_start p q) e = absurd (omega arith)
free (claimed b p q r) e = absurd (omega arith)

-- no object is won more often by one worker than by all
won_by_limit : (v b : ℕ) (l : List Win) → won_by v b l ≤ won_of v l
won_by_limit v b l =
    sum_below (λ (w : Win). hit v w.object * hit b w.winner) (λ (w : Win). hit v w.object) l
    (λ (w : Win). at_most (hit v w.object) (hit b w.winner) (hit_at_most_one b w.winner))
  where
    at_most : (x y : ℕ) → y ≤ 1 → x * y ≤ x
    at_most x zero h = omega arith
    at_most x (suc zero) h = omega arith
    at_most x (suc (suc y)) h = absurd (omega arith)

-- a further claim of another object
owned_other : {starts : List ℕ} {l : List Win} {v x : ℕ} (w : Win) → hit v w.object ≡ 0 → Owned starts l v x → Owned starts (l ++ (w ∷ [])) v x
owned_other {l = l} {v = v} w h (unclaimed p q) = unclaimed p (omega (arith, sum_snoc (λ (w : Win). hit v w.object) l w))
owned_other {l = l} {v = v} w h (a_start p q) = a_start p (omega (arith, sum_snoc (λ (w : Win). hit v w.object) l w))
owned_other {l = l} {v = v} w h (claimed b p q r) =
    claimed b p (omega (arith, sum_snoc (λ (w : Win). hit v w.object) l w))
    (omega (arith, r, rw h at (sum_snoc (λ (w : Win). hit v w.object * hit b w.winner) l w)))

-- it is claimed: it was unmarked
owned_won : {starts : List ℕ} (l : List Win) {v : ℕ} (b : ℕ) → (sum (hit v) starts ≡ 0) × (won_of v l ≡ 0)
    → Owned starts (l ++ (record { object = v; winner = b } ∷ [])) v (claim_mark b)
owned_won l {v} b f =
    let w : Win = record { object = v; winner = b } in
    claimed b f.0
    (omega (arith, f.1, hit_same v, sum_snoc (λ (w : Win). hit v w.object) l w))
    (sum_snoc (λ (w : Win). hit v w.object * hit b w.winner) l w
    ∙ rw (hit_same v, hit_same b) (omega (arith, f.1, won_by_limit v b l)))

-- a turn keeps it
owned_turn : {starts : List ℕ} {l w : List Win} {ms ms' : List ℕ} → AllOwned starts l ms → Wrote ms w ms' → AllOwned starts (l ++ w) ms'
owned_turn {l = l} O nothing v = rw append-nil (O v)
owned_turn {starts} {l} {ms = ms} O (one u b z) v =
    by_cases (dec_le 1 (hit v u))
    (λ (p : 1 ≤ hit v u).
    let below = inside ms u 1 (λ (x : ℕ). 1 - x) refl (rw z (omega arith)) in
    rw (hit_equal v u p, get_or-set_same ms u (claim_mark b) 0 below) (owned_won l b (free (O u) (default ms u 0 1 below ∙ z))))
    (λ (p : 1 ≤ hit v u → ⊥).
    rw (get_or-set_other ms u v (claim_mark b) 0 (λ (q : v ≡ u). omega (arith, hit_same v, ap (hit v) q)))
    (owned_other (record { object = u; winner = b }) (omega arith) (O v)))

owned_turns : (G : Graph) (g : Setting) {starts : List ℕ} {l : List Win} (s : State) → AllOwned starts l s.marks → (xs : List Entry)
    → AllOwned starts (l ++ claims_won G g s xs) (turns G g s xs).marks
unfolding turns claims_won
owned_turns G g s O [] = rw append-nil O
owned_turns G g {l = l} s O (x ∷ xs) =
    rw append_assoc at (owned_turns G g {l = l ++ wins (worker s x.worker) G s x.worker} (turn G g s x) (owned_turn O (wrote G g s x)) xs)

module _ {G : Graph} {starts : List ℕ} {W : ℕ} {g : Setting} (A : Accepted G starts W g) where
  -- at the start by whether the object is one
  owned_start : AllOwned starts [] (start G starts W).marks
  unfolding sum
  owned_start v =
      by_cases (dec_le 1 (sum (hit v) starts))
      (λ (p : 1 ≤ sum (hit v) starts). rw (start_mark A v p) (a_start p refl))
      (λ (p : 1 ≤ sum (hit v) starts → ⊥). let z : sum (hit v) starts ≡ 0 = omega arith in rw (start_unmarked A v z) (unclaimed z refl))

-- two finished collections of a graph from the same starts mark the same objects
pub same_marked : {G : Graph} {starts marks marks' : List ℕ} → FinishedMarks G starts marks → FinishedMarks G starts marks' → (v : ℕ)
    → Marked marks v ↔ Marked marks' v
same_marked m m' v = (λ p. (marked_is m' v).1 ((marked_is m v).0 p), λ p. (marked_is m v).1 ((marked_is m' v).0 p))

-- who claimed what, of every accepted call
pub owners : {G : Graph} {starts : List ℕ} {W : ℕ} {g : Setting} → Accepted G starts W g → (xs : List Entry)
    → Owners G starts W g xs (result (outcome G starts W g xs)) (outcome G starts W g xs).marks
owners {G} {starts} {W} {g} A xs =
    record {
      each = owned_turns G g (start G starts W) (owned_start A) xs;
      limit = (sound A xs).marks_limit;
      same_set = λ done marks' m'.
          same_marked (record { workers = W; setting = g; turns = xs; accepted = A; finished = done; marks_are = refl }) m';
    }
