-- The parts that the code tests make a sound run.
use mathlib.Core.Path.{◌≡◌, sym, ap, subst, ◌∙◌}
use mathlib.Core.List.{List}
use mathlib.Core.Logic.{by_cases}
use Prim.Native.Nat.{ℕ, suc, ◌+◌, ◌*◌, ◌≤◌, ◌<◌}
use native.Mathlib.Decide.{dec_lt}
use native.Mathlib.Nat.{mul-le-mul_right, suc-mul}
use native.Mathlib.Omega.{arith}
use lib.ListN.{length, get_or, drop, length-drop}
use lib.Seq.{length-take-le}
use Rattle.laws.specs.Every.{Every}
use Rattle.laws.specs.Span.{span}
use Rattle.laws.specs.Sum.{sum, hit}
use Rattle.laws.proofs.Passing.{span_agree, span_limit}
use Rattle.laws.proofs.Sum.{sum_positive, hit_equal, hit_other}
use Rattle.graph.specs.Graph.{Graph, objects, references}
use Rattle.graph.specs.Leaving.{leaving_unmarked}
use Rattle.desk.specs.Lengths.{stretch_length, stretches_place}
use Rattle.machine.specs.Run.{Run, carried}
use Rattle.machine.specs.Tally.{Tally}
use Rattle.machine.specs.Machine.{Setting, Worker, ended, worker, runs_of, carried_by, live, stretch}
use Rattle.machine.specs.Sound.{Marked, Within, WholeInside, waits, holds, distinct_starts, tally_of, batch_in, Supplied}
use Rattle.saved.specs.Layout.{worker_word, stretch_in, worker_in, state_of}
use Rattle.saved.specs.Sound.{SavedSound}
use Rattle.saved_theorems.proofs.RoundTrip.{state_sized}
use Rattle.tallies.specs.declared.Sums.{Sums}
use Rattle.validate.specs.Checked.{Checked, Saves}
use Rattle.tallies.specs.Counts.{Agree}
use Rattle.protocol.specs.Heads.{HeadsSound, ended_words, since_words, holders}
use Rattle.protocol.specs.Ring.{LinksSound}
use Rattle.marks.specs.Marks.{MarksLow, StartsMarked}
use Rattle.frontier.specs.Runs.{carried_words, carrying_words, StretchesSound, TargetsSound}
use Rattle.validate.proofs.Rebuilt.{Words32, rebuilt}
use Rattle.validate.proofs.RingLaws.{ring_are, above_told, first_told}
use Rattle.frontier.proofs.StretchLaws.{runs_all}
use Rattle.validate.proofs.Told.{marks_in, worker_in_lem, worker_out, rested_in_lem, tally_in_lem, tally_out, sum_tallies, read, runs_in_lem, times_told, carried_told, carrying_told, ended_told, holds_told, since_told}

span_none : (g : ℕ → ℕ) (k : ℕ) → ((i : ℕ) → i < k → g i ≡ 0) → span g 0 k ≡ 0
span_none g k h =
    span_agree g (λ (i : ℕ). 0) k h ∙ omega (arith, span_limit (λ (i : ℕ). 0) 0 0 k (λ i. omega arith))

-- the sums that the code finds
pub record SumsAre (G : Graph) (starts : List ℕ) (W : ℕ) (w : List ℕ) (u : Sums) : Type 0 where
  pub live_is : u.live ≡ live (marks_in (objects G) W w)
  pub leaving_is : u.leaving ≡ leaving_unmarked G (marks_in (objects G) W w)
  pub distinct_is : u.distinct ≡ distinct_starts G starts
  pub ended_is : u.ended ≡ ended_words w W
  pub since_is : u.since ≡ since_words w W
  pub carrying_is : u.carrying ≡ carrying_words (objects G) W w W
  pub carried_is : u.carried ≡ carried_words (objects G) W w W

module _ {G : Graph} {starts : List ℕ} {W : ℕ} {g : Setting} {w : List ℕ} (ch : Checked G starts W g w) where
  abbrev n : ℕ
  n = objects G

  abbrev ms : List ℕ
  ms = marks_in (objects G) W w

  pub stretch_long : (b : ℕ) → b < W → length (stretch_in (objects G) W w b) ≡ stretch_length (objects G)
  stretch_long b h =
      length-take-le (stretch_length n) (drop (stretches_place n W + b * stretch_length n) w)
      (rw length-drop (omega (arith, ch.long, mul-le-mul_right {m = suc b} {n = W} (stretch_length n) h, suc-mul b (stretch_length n))))

  starts_in : StartsMarked starts ms → (v : ℕ) → 0 < sum (hit v) starts → Marked ms v
  starts_in each v h =
      let r = sum_positive (hit v) 0 starts h in
      let same : v ≡ get_or starts r.0 0 = hit_equal v (get_or starts r.0 0) r.2 in
      rw same (each r.0 r.1)

  module _ (form : get_or w 0 0 ≡ 2) (heads : HeadsSound W g.batch w) (links : LinksSound W w) (low : MarksLow W ms)
      (started : StartsMarked starts ms) (stretches : StretchesSound G ms W w) (targets : TargetsSound G (marks_in (objects G) W w) W w) where
    -- a fact of every worker: of those below W, and of one that has ended
    every_worker : (P : Worker → Type 0) → ((b : ℕ) → b < W → P (worker_in (objects G) W w b)) → P ended → (b : ℕ)
        → P (worker (state_of (objects G) W w) b)
    every_worker P each out b =
        by_cases (dec_lt b W)
        (λ (p : b < W). subst P (sym (worker_in_lem n W w b p)) (each b p))
        (λ (p : ¬ (b < W)). subst P (sym (worker_out n W w b (omega arith))) out)

    cell_out : (a : ℕ) → W ≤ a → holders w a W ≡ 0
    cell_out a h = span_none (λ (b : ℕ). hit (suc a) (worker_word w b 1)) W (λ b q. hit_other (suc a) (worker_word w b 1) (λ e. omega (arith, e, (heads b q).cell_known)))

    cells_in : (a : ℕ) → sum (holds a) (state_of (objects G) W w).workers ≡ waits (worker (state_of (objects G) W w) a)
    cells_in a =
        holds_told n W w heads a
        ∙ by_cases (dec_lt a W)
        (λ (p : a < W). links.cells a p ∙ sym (ap waits (worker_in_lem n W w a p) ∙ (read n W w heads a p).waiting))
        (λ (p : ¬ (a < W)). cell_out a (omega arith) ∙ sym (ap waits (worker_out n W w a (omega arith))))

    stretches_are : (b : ℕ) → b < W → stretch_in (objects G) W w b ≡ stretch (objects G) (worker_in (objects G) W w b)
    unfolding stretch
    stretches_are b h = rw (runs_in_lem n W w heads b h) ((stretches.each b h).words ∙ rw (stretch_long b h))

    module _ {u : Sums} (sums : SumsAre G starts W w u) (agree : Agree (references G) W g.cutoff w u) where
      sound : SavedSound G starts W g (state_of (objects G) W w)
      unfolding state_of carried sum
      sound =
          let right = agree.right in
          let sized = state_sized n W w ch.long in
          let tallies = agree.tallies in
          record {
            sound =
                record {
                  sized = sized;
                  marks_limit = low;
                  starts_marked = starts_in started;
                  live_is = right.live_is ∙ sums.live_is;
                  carrying_is = right.carrying_is ∙ sums.carrying_is ∙ sym (carrying_told n W w heads);
                  runs_within = every_worker (λ (x : Worker). Every (Within G ms) (runs_of x)) within tt;
                  runs_whole = every_worker (λ (x : Worker). WholeInside G (runs_of x)) whole tt;
                  carried_once = λ e. rw (times_told n W w heads e) (stretches.once e);
                  total = rw (carried_told n W w heads, ← sums.carried_is, ← sums.leaving_is) right.total;
                  targets_marked = λ e v l m z. targets v (omega (arith, l.object, sized.marks_length)) m e l.from l.below (sym (times_told n W w heads e) ∙ z);
                  supplied = every_worker Supplied supplied tt;
                  cells = cells_in;
                  batch_limit = every_worker (λ (x : Worker). batch_in x ≤ g.batch) (λ b h. rw (read n W w heads b h).batch (heads b h).batch_limit) (omega arith);
                  batch_carried = every_worker (λ (x : Worker). batch_in x ≤ carried_by x) batch (omega arith);
                  stopped_empty = λ h.
                      carried_told n W w heads ∙ sym sums.carried_is ∙ right.stopped_empty (omega (arith, h, ended_told n W w heads, sums.ended_is));
                  since_followed = omega (arith, agree.low.since_followed, sums.since_is, since_told n W w heads);
                  rested_carrying = rested;
                  refused_moved = agree.low.refused_moved;
                  tallies_followed = sum_tallies n W w (λ (t : Tally). t.followed) ∙ tallies.followed;
                  tallies_handed = sum_tallies n W w (λ (t : Tally). t.handed) ∙ tallies.handed;
                  tallies_won = rw (sum_tallies n W w (λ (t : Tally). t.won), ← sums.distinct_is) tallies.won;
                  tallies_claims = claims;
                  holder_below = links.ring.holder_below;
                  above_holder = above_told n W w heads links.ring;
                  first_ended = first_told n W w heads links.ring;
                };
            moved_limit = agree.low.moved_limit;
            handed_limit = agree.low.handed_limit;
          }
        where
          within : (b : ℕ) → b < W → Every (Within G ms) (runs_of (worker_in (objects G) W w b))
          within b h = subst (λ (l : List Run). Every (Within G ms) l) (sym (runs_in_lem n W w heads b h)) (stretches.each b h).within

          whole : (b : ℕ) → b < W → WholeInside G (runs_of (worker_in (objects G) W w b))
          whole b h = subst (λ (l : List Run). WholeInside G l) (sym (runs_in_lem n W w heads b h)) (stretches.each b h).whole

          supplied : (b : ℕ) → b < W → Supplied (worker_in (objects G) W w b)
          supplied b h =
              (read n W w heads b h).supplied
              (λ q. subst (λ (l : List Run). 0 < length l) (runs_all (worker_word w b 0) (stretch_in (objects G) W w b) q) ((stretches.each b h).supplied q))

          batch : (b : ℕ) → b < W → batch_in (worker_in (objects G) W w b) ≤ carried_by (worker_in (objects G) W w b)
          batch b h =
              omega (arith, (read n W w heads b h).batch, ap carried (runs_in_lem n W w heads b h), (stretches.each b h).batch_carried)

          rested : (b : ℕ) → 0 < carried_by (worker (state_of (objects G) W w) b) → get_or (state_of (objects G) W w).rested b 0 ≡ 0
          rested b q =
              by_cases (dec_lt b W)
              (λ (p : b < W).
              rested_in_lem n W w b p
              ∙ (read n W w heads b p).rested (omega (arith, q, ap carried_by (worker_in_lem n W w b p), ap carried (runs_in_lem n W w heads b p))))
              (λ (p : ¬ (b < W)). absurd (omega (arith, q, ap carried_by (worker_out n W w b (omega arith)))))

          claims : (b : ℕ) → (tally_of (state_of (objects G) W w) b).won + (tally_of (state_of (objects G) W w) b).lost ≤ (tally_of (state_of (objects G) W w) b).followed
          claims b =
              by_cases (dec_lt b W)
              (λ (p : b < W). rw (tally_in_lem n W w b p) (agree.tallies.claims b p))
              (λ (p : ¬ (b < W)). rw (tally_out n W w b (omega arith)) (omega arith))

      -- all parts: the words hold a sound run
      pub saves : Words32 w → Saves G starts W g w
      saves small =
          record {
            words_are = rebuilt n W w small ch.long form (ring_are n W w links.ring) (λ b h. (read n W w heads b h).words) stretches_are;
            saved = sound;
          }
