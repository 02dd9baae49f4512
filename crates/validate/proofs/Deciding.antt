-- What the tests of `is_sound` say, of the marks as the part of the words that it lends.
use mathlib.Core.Path.{◌≡◌, refl, ap, ◌∙◌}
use mathlib.Core.Bool.{Bool}
use mathlib.Core.List.{List}
use Prim.Native.Nat.{ℕ, ◌+◌, ◌-◌, ◌≤◌}
use native.Mathlib.Omega.{arith}
use lib.ListN.{length, get_or, take, drop}
use Rattle.laws.specs.Decides.{Decides}
use Rattle.laws.specs.Sum.{hit}
use Rattle.laws.proofs.Decides.{decides_same}
use Rattle.laws.proofs.Sum.{sum_at, hit_same}
use Rattle.graph.specs.Graph.{Graph, objects, references}
use Rattle.graph.proofs.OverMarked.{over_total}
use Rattle.desk.specs.Lengths.{marks_place}
use Rattle.machine.specs.Machine.{Setting}
use Rattle.saved.specs.Layout.{state_of}
use Rattle.saved_theorems.proofs.RoundTrip.{state_sized}
use Rattle.tallies.specs.declared.Sums.{Sums}
use Rattle.protocol.specs.declared.heads.Heads.{Heads}
use Rattle.marks.specs.declared.Counted.{Counted}
use Rattle.frontier.specs.declared.runs.Loads.{Loads}
use Rattle.validate.specs.Checked.{Checked, Saves}
use Rattle.tallies.specs.Counts.{TalliesThere, RangesLow, SumsLow, Agree}
use Rattle.protocol.specs.Heads.{HeadsCounted}
use Rattle.protocol.specs.Ring.{LinksSound}
use Rattle.marks.specs.Marks.{MarksLow, MarksSound, StartsBelow, StartsMarked, StartsCounted, distinct}
use Rattle.frontier.specs.Runs.{LoadedAre, StretchesSound, TargetsSound}
use Rattle.validate.proofs.Rebuilt.{Words32}
use Rattle.validate.proofs.Told.{marks_in}
use Rattle.validate.proofs.Parts.{SumsAre, saves}
use Rattle.validate.proofs.Needed.{marks_needed, starts_needed, stretches_needed, targets_needed, agree_needed}

-- the marks as they are lent
pub marks_lent : (n W m : ℕ) (w : List ℕ) → m ≡ marks_place W → take (m + n - m) (drop m w) ≡ marks_in n W w
marks_lent n W m w e = let k : m + n - m ≡ n = omega arith in rw (k, e)

-- all tests but the last have held
pub record Passed (G : Graph) (starts : List ℕ) (W : ℕ) (g : Setting) (w ms : List ℕ) (heads : Heads) (marks : Counted) (distinct : ℕ) (loads : Loads) : Type 0 where
  pub form : get_or w 0 0 ≡ 2
  pub heads_are : HeadsCounted W g.batch w heads
  pub links : LinksSound W w
  pub marks_are : MarksSound W G.offsets ms marks
  pub starts_are : StartsCounted starts ms distinct
  pub loads_are : LoadedAre G ms W w loads

pub all_passed : {G : Graph} {starts : List ℕ} {W : ℕ} {g : Setting} {w ms : List ℕ} {heads : Heads} {marks : Counted} {some : ℕ} {loads : Loads}
    → get_or w 0 0 ≡ 2 → HeadsCounted W g.batch w heads → LinksSound W w → MarksSound W G.offsets ms marks → StartsCounted starts ms some
    → LoadedAre G ms W w loads → Passed G starts W g w ms heads marks some loads
all_passed f h l m s o = record { form = f; heads_are = h; links = l; marks_are = m; starts_are = s; loads_are = o }

-- the sums that it is given
abbrev pub sums_of : Heads → Counted → ℕ → Loads → Sums
sums_of heads marks distinct loads =
    record {
      live = marks.live;
      leaving = marks.leaving;
      distinct = distinct;
      ended = heads.ended;
      since = heads.since;
      carrying = loads.carrying;
      carried = loads.carried;
    }

module _ {G : Graph} {starts : List ℕ} {W : ℕ} {g : Setting} {w : List ℕ} (ch : Checked G starts W g w) where
  pub tallies_there : TalliesThere W w
  tallies_there = record { low = ch.accepted.workers_limit; long = omega (arith, ch.long) }

  pub ranges_low : RangesLow (references G) W g.cutoff
  ranges_low =
      record {
        references_limit = ch.references_limit;
        workers_limit = ch.accepted.workers_limit;
        some_cutoff = ch.accepted.some_cutoff;
        cutoff_limit = ch.accepted.cutoff_limit;
      }

  module _ {ms : List ℕ} (is : ms ≡ marks_in (objects G) W w) where
    long : length ms ≡ objects G
    unfolding state_of
    long = ap length is ∙ (state_sized (objects G) W w ch.long).marks_length

    pub starts_below : StartsBelow starts (length ms)
    starts_below i h =
        let v = get_or starts i 0 in
        omega (arith, long, ch.accepted.starts_below v (omega (arith, sum_at (hit v) 0 starts i v refl h, hit_same v)))

    pub objects_low : length ms ≤ 65536
    objects_low = omega (arith, long, ch.objects_limit)

    pub marks_wrong : ¬ MarksLow W ms → Saves G starts W g w → ⊥
    marks_wrong n r = n (rw is (marks_needed ch r))

    pub starts_wrong : ¬ StartsMarked starts ms → Saves G starts W g w → ⊥
    starts_wrong n r = n (rw is (starts_needed ch r))

    pub loads_wrong : (StretchesSound G ms W w → TargetsSound G ms W w → ⊥) → Saves G starts W g w → ⊥
    loads_wrong n r = n (rw is (stretches_needed ch r)) (rw is (targets_needed ch r))

    module _ {heads : Heads} {marks : Counted} {some : ℕ} {loads : Loads} (x : Passed G starts W g w ms heads marks some loads) where
      sums_are : SumsAre G starts W w (sums_of heads marks some loads)
      sums_are =
          record {
            live_is = rw is at x.marks_are.counted.live;
            leaving_is = rw is at (x.marks_are.counted.leaving G.targets);
            distinct_is = x.starts_are.distinct ∙ ap (λ (k : ℕ). distinct k starts) long;
            ended_is = x.heads_are.ended;
            since_is = x.heads_are.since;
            carrying_is = x.loads_are.carrying;
            carried_is = x.loads_are.total;
          }

      pub sums_low : SumsLow (sums_of heads marks some loads)
      sums_low =
          let all = over_total G ch.accepted.formed (marks_in (objects G) W w) (rw is at long) in
          record { carried_low = x.loads_are.low; leaving_low = omega (arith, sums_are.leaving_is, all, ch.references_limit) }

      pub decided : {r : Bool} → Words32 w → Decides r (Agree (references G) W g.cutoff w (sums_of heads marks some loads))
          → Decides r (Saves G starts W g w)
      decided small d =
          decides_same d
          (λ a.
          saves ch x.form x.heads_are.right x.links (rw is at x.marks_are.right) (rw is at x.starts_are.right)
          (rw is at x.loads_are.right) (rw is at x.loads_are.targets) sums_are a small)
          (λ r. agree_needed ch r sums_are)
