-- A sound run has each of the parts that the code tests.
use mathlib.Core.Path.{◌≡◌, refl, sym, ap, subst, ◌∙◌}
use mathlib.Core.List.{List, ◌++◌}
use mathlib.Core.Logic.{by_cases}
use Prim.Native.Nat.{ℕ, zero, suc, ◌+◌, ◌-◌, ◌*◌, ◌^◌, ◌≤◌, ◌<◌}
use native.Mathlib.Decide.{dec_lt}
use native.Mathlib.Omega.{arith}
use lib.ListN.{length, get_or, replicate}
use Rattle.laws.specs.Every.{Every}
use Rattle.laws.specs.Sum.{hit}
use Rattle.laws.proofs.Sum.{sum_at, hit_same}
use Rattle.graph.specs.Graph.{Graph, objects, references}
use Rattle.machine.specs.Run.{Run, carried, pairs}
use Rattle.machine.specs.Tally.{Tally}
use Rattle.machine.specs.Machine.{Setting, Worker, ended, worker, runs_of, carried_by, stretch}
use Rattle.machine.specs.Sound.{Within, WholeInside, batch_in, Supplied, waits, holds, Sound}
use Rattle.machine.specs.Ring.{shade, black_set}
use Rattle.theorems.proofs.Colours.{shade_limit, set_limit}
use Rattle.laws.specs.Blocks.{laid}
use Rattle.saved.specs.Layout.{saved_words, Shaped, worker_word, stretch_in, worker_in, rested_in, ring_in, state_of, runs_in}
use Rattle.saved_theorems.proofs.Kept.{shaped}
use Rattle.saved_theorems.proofs.RoundTrip.{worker_word_lem, stretch_told}
use Rattle.tallies.specs.declared.Sums.{Sums}
use Rattle.validate.specs.Checked.{Checked, Saves}
use Rattle.tallies.specs.Counts.{Agree}
use Rattle.protocol.specs.Heads.{HeadsSound, CellsSound}
use Rattle.marks.specs.Marks.{MarksLow, StartsMarked}
use Rattle.protocol.specs.Ring.{ring_word, RingSound, LinksSound}
use Rattle.validate.proofs.RingLaws.{below_told, first_back, above_back}
use Rattle.frontier.specs.Runs.{runs_at, StretchAt, StretchesSound, TargetsSound}
use Rattle.validate.proofs.Reading.{word_of, head_back, cell_back}
use Rattle.frontier.proofs.StretchLaws.{runs_all}
use Rattle.validate.proofs.Parts.{SumsAre, stretch_long}
use Rattle.validate.proofs.Told.{marks_in, worker_in_lem, worker_out, rested_in_lem, tally_in_lem, sum_tallies, read, runs_in_lem, times_told, carried_told, carrying_told, ended_told, holds_told, since_told}

module _ {G : Graph} {starts : List ℕ} {W : ℕ} {g : Setting} {w : List ℕ} (ch : Checked G starts W g w) (r : Saves G starts W g w) where
  abbrev n : ℕ
  n = objects G

  S : Sound G starts W g (state_of (objects G) W w)
  S = r.saved.sound

  pub form_needed : get_or w 0 0 ≡ 2
  unfolding saved_words
  form_needed = ap (λ (l : List ℕ). get_or l 0 0) r.words_are

  pub marks_needed : MarksLow W (marks_in (objects G) W w)
  unfolding state_of
  marks_needed = S.marks_limit

  pub starts_needed : StartsMarked starts (marks_in (objects G) W w)
  unfolding state_of
  starts_needed i h =
      let v = get_or starts i 0 in
      S.starts_marked v (omega (arith, sum_at (hit v) 0 starts i v refl h, hit_same v))

  is_shaped : Shaped (objects G) W (state_of (objects G) W w)
  is_shaped = shaped ch.accepted S

  -- word k of worker b
  word_is : (b k : ℕ) → b < W → k < 4 → worker_word w b k ≡ word_of (worker_in (objects G) W w b) (rested_in w b) k
  word_is b k h q =
      ap (λ (l : List ℕ). worker_word l b k) r.words_are
      ∙ worker_word_lem is_shaped b k h q
      ∙ rw (worker_in_lem n W w b h, rested_in_lem n W w b h)

  cell_low : (b : ℕ) → b < W → (c : ℕ) → worker_word w b 1 ≡ c → c ≤ W
  cell_low b h zero e = omega arith
  cell_low b h (suc x) e =
      let held : 0 < holds x (worker_in n W w b) =
      cell_back (worker_word w b 1) (worker_word w b 2) (worker_word w b 3) (runs_in (stretch_in n W w b)) (worker_word w b 0) x e (word_is b 1 h (omega arith)) in
      let all = sum_at (holds x) ended (state_of n W w).workers b (worker_in n W w b) (worker_in_lem n W w b h) (omega (arith, S.sized.workers_length)) in
      by_cases (dec_lt x W)
      (λ (p : x < W). omega arith)
      (λ (p : ¬ (x < W)). absurd (omega (arith, held, all, S.cells x, ap waits (worker_out n W w x (omega arith)))))

  pub heads_needed : HeadsSound W g.batch w
  heads_needed b h =
      let same = worker_in_lem n W w b h in
      head_back (worker_word w b 1) (worker_word w b 2) (worker_word w b 3) (runs_in (stretch_in n W w b)) (worker_word w b 0)
      (word_is b 0 h (omega arith)) (word_is b 1 h (omega arith)) (word_is b 3 h (omega arith))
      (cell_low b h (worker_word w b 1) refl)
      (subst (λ (x : Worker). batch_in x ≤ g.batch) same (S.batch_limit b))
      (subst Supplied same (S.supplied b))
      (λ q. sym (rested_in_lem n W w b h) ∙ S.rested_carrying b (subst (λ (x : Worker). 0 < carried_by x) (sym same) q))

  pub cells_needed : CellsSound W w
  cells_needed a h =
      sym (holds_told n W w heads_needed a)
      ∙ S.cells a
      ∙ ap waits (worker_in_lem n W w a h)
      ∙ (read n W w heads_needed a h).waiting

  -- the words are those of a ring, and that one is sound
  pub ring_needed : RingSound W w
  unfolding saved_words laid state_of
  ring_needed =
      let token : get_or w 14 0 ≡ shade (ring_in W w).token = ap (λ (l : List ℕ). get_or l 14 0) r.words_are in
      let dark : get_or w 15 0 ≡ black_set (ring_in W w).colours = ap (λ (l : List ℕ). get_or l 15 0) r.words_are in
      let low : ring_word w 1 ≤ 1 = omega (arith, token, shade_limit (ring_in W w).token) in
      record {
        holder_below = S.holder_below;
        token_known = low;
        black_known = rw dark (subst (λ (k : ℕ). black_set (ring_in W w).colours < 2 ^ k) S.sized.colours_length (set_limit (ring_in W w).colours));
        first_ended = first_back n W w heads_needed ch.accepted.some_worker S.first_ended;
        above = λ z.
            above_back n W w heads_needed S.supplied
            (S.above_holder (below_told n W w low S.holder_below ∙ z));
      }

  pub links_needed : LinksSound W w
  links_needed = record { cells = cells_needed; ring = ring_needed }

  stretch_needed : (b : ℕ) → b < W → StretchAt G (marks_in (objects G) W w) W w b
  unfolding state_of stretch
  stretch_needed b h =
      let same : runs_of (worker (state_of n W w) b) ≡ runs_at n W w b = ap runs_of (worker_in_lem n W w b h) ∙ runs_in_lem n W w heads_needed b h in
      record {
        within = subst (λ (l : List Run). Every (Within G (marks_in n W w)) l) same (S.runs_within b);
        whole = subst (λ (l : List Run). WholeInside G l) same (S.runs_whole b);
        words =
            ap (λ (l : List ℕ). stretch_in n W l b) r.words_are
            ∙ stretch_told is_shaped b h
            ∙ ap (λ (l : List Run). pairs l ++ replicate (2 * n + 4 - length (pairs l)) 0) same
            ∙ rw (stretch_long ch b h);
        supplied = λ q.
            subst (λ (l : List Run). 0 < length l) (sym (runs_all (worker_word w b 0) (stretch_in n W w b) q))
            ((read n W w heads_needed b h).has_runs (subst Supplied (worker_in_lem n W w b h) (S.supplied b)) q);
        batch_carried =
            omega (
              arith,
              subst (λ (x : Worker). batch_in x ≤ carried_by x) (worker_in_lem n W w b h) (S.batch_carried b),
              (read n W w heads_needed b h).batch,
              ap carried (runs_in_lem n W w heads_needed b h),
            );
      }

  pub stretches_needed : StretchesSound G (marks_in (objects G) W w) W w
  stretches_needed =
      record { each = stretch_needed; once = λ e. rw (← times_told n W w heads_needed e) (S.carried_once e) }

  pub targets_needed : TargetsSound G (marks_in (objects G) W w) W w
  unfolding state_of
  targets_needed v h m e a b z =
      S.targets_marked e v (record { object = omega (arith, h, S.sized.marks_length); from = a; below = b }) m (times_told n W w heads_needed e ∙ z)

  pub agree_needed : {u : Sums} → SumsAre G starts W w u → Agree (references G) W g.cutoff w u
  unfolding state_of
  agree_needed u =
      record {
        right =
            record {
              live_is = S.live_is ∙ sym u.live_is;
              carrying_is = S.carrying_is ∙ carrying_told n W w heads_needed ∙ sym u.carrying_is;
              total = rw (u.carried_is, u.leaving_is, ← carried_told n W w heads_needed) S.total;
              stopped_empty = λ q.
                  u.carried_is
                  ∙ sym (carried_told n W w heads_needed)
                  ∙ S.stopped_empty (omega (arith, q, u.ended_is, ended_told n W w heads_needed));
            };
        low =
            record {
              moved_limit = r.saved.moved_limit;
              handed_limit = r.saved.handed_limit;
              since_followed = omega (arith, S.since_followed, u.since_is, since_told n W w heads_needed);
              refused_moved = S.refused_moved;
            };
        tallies =
            record {
              followed = sym (sum_tallies n W w (λ (t : Tally). t.followed)) ∙ S.tallies_followed;
              won = rw (u.distinct_is, ← sum_tallies n W w (λ (t : Tally). t.won)) S.tallies_won;
              handed = sym (sum_tallies n W w (λ (t : Tally). t.handed)) ∙ S.tallies_handed;
              claims = λ b h. rw (tally_in_lem n W w b h) at (S.tallies_claims b);
            };
      }
