-- The turns of one worker alone, from the start to its end.
use Prim.Native.Nat.{ℕ, zero, suc, ◌+◌, ◌≤◌, ◌<◌, min}
use mathlib.Core.Path.{◌≡◌, refl, ap, ◌∙◌}
use mathlib.Core.List.{List, [], ◌∷◌, ◌++◌}
use native.Mathlib.Omega.{arith}
use lib.ListN.{length, get_or, set, replicate}
use Rattle.laws.specs.Sum.{sum}
use Rattle.graph.specs.Graph.{Graph, objects, references, target}
use Rattle.graph.specs.Chain.{marks_at, leaving_reached}
use Rattle.graph.specs.Limits.{most_objects, most_references}
use Rattle.machine.specs.Run.{Run, run, run_from, carried, leaving}
use Rattle.machine.specs.Tally.{tally}
use Rattle.machine.specs.Ring.{fresh_ring}
use Rattle.machine.specs.Machine.{Setting, State, empty, phase, ended, unmarked, start_runs, start, turn, turns}
use Rattle.machine.specs.Accepted.{Accepted}
use Rattle.machine.specs.Sound.{Sound}
use Rattle.machine.specs.Demand3.{moved_bound}
use Rattle.theorems.proofs.Facts.{run_counts, live_below, first_run_limit, first_target, busy_room, busy_carried_limit}
use Rattle.theorems.proofs.Start as starting
use Rattle.theorems.proofs.Demand3.{reached_limit, demand3}
use Rattle.rounds.specs.Whole.{own_turn}
use Rattle.alone.specs.Alone.{starts_of, alone, Alone}

-- ---- one turn

module _ (G : Graph) (starts : List ℕ) (g : Setting) (marks : List ℕ) where
  poll_turn_lem : (r : Run) (rs : List Run) (f w p : ℕ)
      → turn G g (alone G starts marks 0 (r ∷ rs) f w p) own_turn ≡ alone G starts marks (min g.batch (carried (r ∷ rs))) (r ∷ rs) f w (p + 1)
  unfolding turn
  poll_turn_lem r rs f w p = let m : f + w + p + 1 ≡ f + w + (p + 1) = omega arith in rw m refl

  -- the target is marked
  look_turn_lem : (k e j : ℕ) (rs : List Run) (f w p x : ℕ) → get_or marks (target G e) 1 ≡ suc x
      → turn G g (alone G starts marks (suc k) (run e j ∷ rs) f w p) own_turn ≡ alone G starts marks k (run_from (suc e) j ++ rs) (f + 1) w p
  unfolding turn
  look_turn_lem k e j rs f w p x h =
      let s : suc f ≡ f + 1 = omega arith in
      let n : w + 0 ≡ w = omega arith in
      let l : starts_of G starts + w + 0 ≡ starts_of G starts + w = omega arith in
      let m : f + w + p + 1 ≡ f + 1 + w + p = omega arith in
      rw (h, s, n, l, m) refl

  -- it is not: a look, and a claim, which is won
  claim_turns : (k e j : ℕ) (rs : List Run) (f w p : ℕ) → get_or marks (target G e) 1 ≡ 0
      → turn G g (turn G g (alone G starts marks (suc k) (run e j ∷ rs) f w p) own_turn) own_turn
      ≡ alone G starts (set marks (target G e) 1) k (run_from (suc e) j ++ (leaving G (target G e) ++ rs)) (f + 1) (w + 1) p
  unfolding turn
  claim_turns k e j rs f w p h =
      let s : suc f ≡ f + 1 = omega arith in
      let l : starts_of G starts + w + 1 ≡ starts_of G starts + (w + 1) = omega arith in
      let m : f + w + p + 1 + 1 ≡ f + 1 + (w + 1) + p = omega arith in
      rw (h, h, s, l, m) refl

  -- it has ended
  abbrev pub alone_ended : ℕ → ℕ → ℕ → State
  alone_ended f w p =
      record {
        marks = marks;
        workers = ended ∷ [];
        rested = f ∷ [];
        ring = fresh_ring 1;
        tallies = tally f w 0 0 ∷ [];
        counts =
            record {
              live = starts_of G starts + w;
              followed = f;
              handed = 0;
              refused = 0;
              moved = f + w + p + 1;
              carrying = 0;
            };
      }

  end_turn : (k f w p : ℕ) → turn G g (alone G starts marks k [] f w p) own_turn ≡ alone_ended f w p
  unfolding turn
  end_turn k f w p = refl

-- ---- from the start

start_alone : (G : Graph) (starts : List ℕ) → start G starts 1 ≡ alone G starts (marks_at starts (unmarked G)) 0 (start_runs G starts (unmarked G)) 0 0 0
unfolding start carried sum
start_alone G starts = by_runs (start_runs G starts (unmarked G)) refl
  where
    by_runs : (rs : List Run) → start_runs G starts (unmarked G) ≡ rs
        → start G starts 1 ≡ alone G starts (marks_at starts (unmarked G)) 0 (start_runs G starts (unmarked G)) 0 0 0
    by_runs [] h = let l : starts_of G starts + 0 ≡ starts_of G starts = omega arith in rw (h, l) refl
    by_runs (r ∷ rs) h = let l : starts_of G starts + 0 ≡ starts_of G starts = omega arith in rw (h, l, run_counts r rs) refl

-- one more turn behind the others
own_next : (G : Graph) (g : Setting) (s : State) (m : ℕ) → turns G g s (replicate (suc m) own_turn) ≡ turn G g (turns G g s (replicate m own_turn)) own_turn
unfolding turns
own_next G g s zero = refl
own_next G g s (suc m) = own_next G g (turn G g s own_turn) m

-- ---- from a place of the collection to the next

module _ {G : Graph} {starts : List ℕ} {g : Setting} where
  pub begins : Accepted G starts 1 g → objects G ≤ most_objects → references G ≤ most_references
      → Alone G starts g (marks_at starts (unmarked G)) 0 (start_runs G starts (unmarked G)) 0 0 0
  unfolding turns
  begins a n m = record { accepted = a; objects_limit = n; references_limit = m; made = 0; state_is = start_alone G starts }

  module _ {marks : List ℕ} {k : ℕ} {rs : List Run} {f w p : ℕ} (x : Alone G starts g marks k rs f w p) where
    -- what is known after any turns
    sound_here : Sound G starts 1 g (alone G starts marks k rs f w p)
    sound_here = rw x.state_is at (starting.sound x.accepted (replicate x.made own_turn))

    pub moved_few : f + w + p ≤ moved_bound (references G) 1
    moved_few =
        let m : f + w + p ≤ moved_bound (leaving_reached G starts) 1 = rw x.state_is at (demand3 x.accepted (replicate x.made own_turn)).moved in
        omega (arith, m, reached_limit x.accepted)

    pub marks_long : length marks ≡ objects G
    marks_long = sound_here.sized.marks_length

    pub won_few : w ≤ objects G
    won_few = omega (arith, live_below x.accepted sound_here)

    -- one turn more
    after : turns G g (start G starts 1) (replicate (suc x.made) own_turn) ≡ turn G g (alone G starts marks k rs f w p) own_turn
    after = own_next G g (start G starts 1) x.made ∙ ap (λ (s : State). turn G g s own_turn) x.state_is

  module _ {marks : List ℕ} {r : Run} {rs : List Run} {f w p : ℕ} (x : Alone G starts g marks 0 (r ∷ rs) f w p) where
    pub polled : Alone G starts g marks (min g.batch (carried (r ∷ rs))) (r ∷ rs) f w (p + 1)
    polled =
        record {
          accepted = x.accepted;
          objects_limit = x.objects_limit;
          references_limit = x.references_limit;
          made = suc x.made;
          state_is = after x ∙ poll_turn_lem G starts g marks r rs f w p;
        }

  module _ {marks : List ℕ} {k e j : ℕ} {rs : List Run} {f w p : ℕ} (x : Alone G starts g marks k (run e j ∷ rs) f w p) where
    pub run_inside : e + suc j ≤ references G
    run_inside = first_run_limit x.accepted (sound_here x) 0 {c = empty} {n = f} {p = phase k} refl

    pub target_inside : target G e < objects G
    target_inside = first_target x.accepted (sound_here x) 0 {c = empty} {n = f} {p = phase k} refl

    pub runs_few : length (run e j ∷ rs) ≤ suc (objects G)
    runs_few = busy_room x.accepted (sound_here x) 0 {c = empty} {n = f} {p = phase k} refl

    pub carried_few : carried (run e j ∷ rs) ≤ references G
    carried_few = busy_carried_limit x.accepted (sound_here x) 0 {c = empty} {n = f} {p = phase k} refl

  module _ {marks : List ℕ} {k e j : ℕ} {rs : List Run} {f w p : ℕ} (x : Alone G starts g marks (suc k) (run e j ∷ rs) f w p) where
    pub looked : (m : ℕ) → get_or marks (target G e) 1 ≡ suc m → Alone G starts g marks k (run_from (suc e) j ++ rs) (f + 1) w p
    looked m h =
        record {
          accepted = x.accepted;
          objects_limit = x.objects_limit;
          references_limit = x.references_limit;
          made = suc x.made;
          state_is = after x ∙ look_turn_lem G starts g marks k e j rs f w p m h;
        }

    pub claimed : get_or marks (target G e) 1 ≡ 0
        → Alone G starts g (set marks (target G e) 1) k (run_from (suc e) j ++ (leaving G (target G e) ++ rs)) (f + 1) (w + 1) p
    claimed h =
        record {
          accepted = x.accepted;
          objects_limit = x.objects_limit;
          references_limit = x.references_limit;
          made = suc (suc x.made);
          state_is =
              own_next G g (start G starts 1) (suc x.made) ∙ ap (λ (s : State). turn G g s own_turn) (after x)
              ∙ claim_turns G starts g marks k e j rs f w p h;
        }

  -- nothing is left: the worker ends
  pub ended_is : {marks : List ℕ} {k f w p : ℕ} (x : Alone G starts g marks k [] f w p)
      → turns G g (start G starts 1) (replicate (suc x.made) own_turn) ≡ alone_ended G starts g marks f w p
  ended_is {marks} {k} {f} {w} {p} x = after x ∙ end_turn G starts g marks k f w p
