-- Single rules of SPECIFICATION 4.2 to 4.5, drawn: a call, its row, and the workers that its turns leave, computed.
use Rattle.std.specs.Prelude.{◌≡◌, refl, false, List, [], ◌∷◌, ◌++◌, map, ℕ, ◌+◌, replicate}
use Rattle.laws.specs.Blocks.{laid}
use Rattle.graph.specs.Graph.{Graph, rising, all_below, well_formed}
use Rattle.graph.specs.Chain.{marks_at}
use Rattle.machine.specs.Run.{run, carried, keep, rest, pairs}
use Rattle.machine.specs.Machine.{Worker, idle, asking, denied, given, busy, poll, look, claim, empty, from, turns, worker, runs_of, start, start_runs, entries, all_ended, live, stretch, memory}
use Rattle.machine.specs.declared.frontier.Held.TheVariants.{Front, Back, Middle}
use Rattle.machine.specs.Split.{held, held_half}
use Rattle.desk.specs.Checks.{schedule_fits}
use Rattle.machine.specs.Call.{first_fault, final, marks_after, work_after}
use Rattle.machine.specs.Drawings.{Drawing, itself, naming0, gives, drawing, ones, drawn}

-- a drawing, and the workers after its last turn
pub record Rule : Type 0 where
  pub shown : Drawing
  pub leaves : List Worker

abbrev pub rule : Drawing → List Worker → Rule
rule d ws = record { shown = d; leaves = ws }

-- 0→1 so many times
abbrev pub repeated : ℕ → Graph
repeated k = record { offsets = 0 ∷ k ∷ k ∷ []; targets = replicate k 1 }

-- 0→1, 0→2, 0→3, and from 1, 2 and 3 to 4 so many times
abbrev pub fan_of : ℕ → ℕ → ℕ → Graph
fan_of a b c =
    record {
      offsets = 0 ∷ 3 ∷ (3 + a) ∷ (3 + a + b) ∷ (3 + a + b + c) ∷ (3 + a + b + c) ∷ [];
      targets = 1 ∷ 2 ∷ 3 ∷ replicate (a + b + c) 4;
    }

abbrev pub fan : Graph
fan = fan_of 2 4 2

-- worker 0 of a fan opens three runs, the latest first, and is asked by 1
unfoldable pub opened : Graph → Drawing
unfolding naming0
opened G = drawing G 2 3 7 (naming0 (0 ∷ 0 ∷ 0 ∷ 0 ∷ 0 ∷ 0 ∷ 0 ∷ 1 ∷ [])) (gives false 4 3 0 0 8 1)

-- then it shares
unfoldable pub cut : Graph → Drawing
unfolding naming0
cut G = drawing G 2 3 7 (naming0 (0 ∷ 0 ∷ 0 ∷ 0 ∷ 0 ∷ 0 ∷ 0 ∷ 1 ∷ 0 ∷ [])) (gives false 4 3 1 0 9 2)

-- in the first of the three runs, in the last, in the middle one, and before the last, which holds half exactly
abbrev pub cut_fans : List Graph
cut_fans = fan_of 1 2 5 ∷ fan_of 5 2 1 ∷ fan ∷ fan_of 4 2 2 ∷ []

unfoldable pub rules : List Rule
unfolding cut naming0
rules =
    -- the start: worker 0 is busy with the index's run, the other is idle; since and batch are 0, the cell is empty
    rule (drawing (repeated 4) 2 2 2 [] (gives false 1 0 0 0 0 1))
    (busy empty 0 poll (run 0 3 ∷ []) ∷ idle ∷ [])
    -- no asker at the poll: batch is what is carried, D being more; an asker without a reply waits; an idle worker that
    -- names a worker whose cell is taken, an asking one, itself, an idle one or none asks nobody
    ∷ rule (drawing (repeated 2) 4 9 1 (0 ∷ 0 ∷ 1 ∷ 0 ∷ 1 ∷ 0 ∷ 2 ∷ 0 ∷ 2 ∷ 1 ∷ 2 ∷ 2 ∷ 2 ∷ 3 ∷ 2 ∷ 4 ∷ []) (gives false 1 0 0 0 2 1))
    (busy (from 1) 0 (look 1) (run 0 1 ∷ []) ∷ asking ∷ idle ∷ idle ∷ [])
    -- an asker is answered at a poll only; a look at an unmarked target leaves since and batch, and a claim is next
    ∷ rule (drawing fan 2 3 1 (naming0 (0 ∷ 1 ∷ 0 ∷ 0 ∷ 0 ∷ [])) (gives false 2 1 0 0 5 1))
    (busy (from 1) 1 (claim 1) (run 1 1 ∷ run 3 1 ∷ []) ∷ asking ∷ [])
    -- carried is K and since is below it: a refusal; batch is what is carried, D being more
    ∷ rule (drawing (repeated 5) 2 9 5 (naming0 (1 ∷ 0 ∷ [])) (gives false 1 0 0 1 2 1))
    (busy empty 0 (look 4) (run 0 4 ∷ []) ∷ denied ∷ [])
    -- carried is K + 1, and odd: it keeps three of five, from which batch comes, and the asker takes up two with batch 0
    ∷ rule (drawing (repeated 5) 2 9 4 (naming0 (1 ∷ 0 ∷ 1 ∷ [])) (gives false 1 0 1 0 3 2))
    (busy empty 0 (look 2) (run 0 2 ∷ []) ∷ busy empty 0 poll (run 3 1 ∷ []) ∷ [])
    -- since is K, over a poll without an asker, and carried is 2: shared, and since is 0 again
    ∷ rule (drawing (repeated 4) 2 1 2 (naming0 (0 ∷ 0 ∷ 0 ∷ 0 ∷ 0 ∷ 1 ∷ 0 ∷ [])) (gives false 2 2 1 0 7 2))
    (busy empty 0 (look 0) (run 2 0 ∷ []) ∷ given (run 3 0 ∷ []) ∷ [])
    -- since is K - 1: a refusal, which leaves since as it was and makes the asker idle in its turn
    ∷ rule (drawing (repeated 4) 2 2 3 (naming0 (0 ∷ 0 ∷ 0 ∷ 0 ∷ 1 ∷ 0 ∷ 1 ∷ [])) (gives false 2 2 0 1 7 1))
    (busy empty 2 (look 1) (run 2 1 ∷ []) ∷ idle ∷ [])
    -- since is K and carried is 1: a refusal
    ∷ rule (drawing (repeated 2) 2 1 1 (naming0 (0 ∷ 0 ∷ 0 ∷ 1 ∷ 0 ∷ [])) (gives false 2 1 0 1 5 1))
    (busy empty 1 (look 0) (run 1 0 ∷ []) ∷ denied ∷ [])
    -- three runs, the latest claim's first: the first, the last or the middle one is cut, or the last is handed over whole,
    -- and the asker's runs keep their order
    ∷ rule (cut (fan_of 1 2 5))
    (busy empty 0 (look 2) (run 6 3 ∷ []) ∷ given (run 10 0 ∷ run 4 1 ∷ run 3 0 ∷ []) ∷ [])
    ∷ rule (cut (fan_of 5 2 1))
    (busy empty 0 (look 2) (run 10 0 ∷ run 8 1 ∷ run 3 0 ∷ []) ∷ given (run 4 3 ∷ []) ∷ [])
    ∷ rule (cut fan)
    (busy empty 0 (look 2) (run 9 1 ∷ run 5 1 ∷ []) ∷ given (run 7 1 ∷ run 3 1 ∷ []) ∷ [])
    ∷ rule (cut (fan_of 4 2 2))
    (busy empty 0 (look 2) (run 9 1 ∷ run 7 1 ∷ []) ∷ given (run 3 3 ∷ []) ∷ [])
    -- a lost claim lowers batch and raises since like any other
    ∷ rule (drawing (repeated 4) 2 2 1 (naming0 (1 ∷ 0 ∷ 1 ∷ 1 ∷ 1 ∷ 0 ∷ 0 ∷ 1 ∷ [])) (gives false 2 2 1 0 8 2))
    (busy empty 1 (look 0) (run 1 0 ∷ []) ∷ busy empty 1 (look 0) (run 3 0 ∷ []) ∷ [])
    -- a worker left with nothing is idle in that turn, and refuses the asker in its cell
    ∷ rule (drawing itself 2 1 1 (naming0 (0 ∷ 1 ∷ 0 ∷ [])) (gives false 1 1 0 1 3 0))
    (idle ∷ denied ∷ [])
    -- a hand-over that is not taken up is carried: the idle worker does not end
    ∷ rule (drawing (repeated 2) 2 1 1 (naming0 (1 ∷ 0 ∷ 0 ∷ 0 ∷ 0 ∷ [])) (gives false 2 1 1 0 4 1))
    (idle ∷ given (run 1 0 ∷ []) ∷ [])
    ∷ []

pub rules_give : map (λ (r : Rule). drawn r.shown) rules ≡ map (λ (r : Rule). r.shown.gives) rules
unfolding drawn rules turns start entries all_ended live start_runs carried marks_at keep rest rising all_below well_formed schedule_fits
rules_give = refl

pub rules_leave : map (λ (r : Rule). (final r.shown.call).workers) rules ≡ map (λ (r : Rule). r.leaves) rules
unfolding rules turns start entries live start_runs carried marks_at keep rest
rules_leave = refl

-- the part that held the last reference kept, before it was shared
pub held_cut : map (λ (G : Graph). held_half (runs_of (worker (final (opened G).call) 0))) cut_fans ≡ Front ∷ Back ∷ Middle ∷ Middle ∷ []
unfolding opened held turns start entries live start_runs carried marks_at
held_cut = refl

-- the marks and the work words of these unfinished collections, in buffers that held ones: of each worker the run to be
-- followed last stands first, a cut run among them, and zeros behind
pub marks_cut : map (λ (G : Graph). marks_after (cut G).call (ones 5) (ones 28) (ones 8)) cut_fans ≡ replicate 4 (1 ∷ 1 ∷ 1 ∷ 1 ∷ 0 ∷ [])
unfolding cut first_fault turns start entries live start_runs carried marks_at keep rest rising all_below well_formed schedule_fits
marks_cut = refl

pub work_cut :
    map (λ (G : Graph). work_after (cut G).call (ones 5) (ones 28) (ones 8)) cut_fans
    ≡ ((6 ∷ 10 ∷ replicate 12 0) ++ (3 ∷ 4 ∷ 4 ∷ 6 ∷ 10 ∷ 11 ∷ replicate 8 0))
    ∷ ((3 ∷ 4 ∷ 8 ∷ 10 ∷ 10 ∷ 11 ∷ replicate 8 0) ++ (4 ∷ 8 ∷ replicate 12 0))
    ∷ ((5 ∷ 7 ∷ 9 ∷ 11 ∷ replicate 10 0) ++ (3 ∷ 5 ∷ 7 ∷ 9 ∷ replicate 10 0))
    ∷ ((7 ∷ 9 ∷ 9 ∷ 11 ∷ replicate 10 0) ++ (3 ∷ 7 ∷ replicate 12 0))
    ∷ []
unfolding cut first_fault turns start entries live start_runs carried marks_at keep rest rising all_below well_formed schedule_fits memory stretch laid pairs
work_cut = refl
