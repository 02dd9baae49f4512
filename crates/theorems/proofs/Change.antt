-- Some workers change: what that does to a sum over the workers, and to what stands at a place.
use mathlib.Core.Path.{◌≡◌, refl, ◌∙◌}
use mathlib.Core.List.{List, [], ◌∷◌}
use mathlib.Core.Logic.{◌≢◌}
use Prim.Native.Nat.{ℕ, zero, suc, ◌+◌, ◌*◌, ◌<◌}
use native.Mathlib.Omega.{arith}
use lib.ListN.{length, get_or, set, length-set}
use lib.Seq.{get_or-set_other}
use Rattle.laws.specs.Every.{Every}
use Rattle.laws.specs.Sum.{sum, hit}
use Rattle.laws.proofs.Sum.{sum_set, at_set, each_set}
use Rattle.machine.specs.Machine.{Worker, idle, asking, denied, ended, given, busy}
use Rattle.machine.specs.Sound.{waits}
use Rattle.machine.specs.Events.{replies}

-- one worker's change: its number, what it was and what it is
pub record Change : Type 0 where
  pub place : ℕ
  pub was : Worker
  pub now : Worker

-- the workers after the changes
abbrev pub put : List Worker → List Change → List Worker
put ws [] = ws
put ws (c ∷ cs) = put (set ws c.place c.now) cs

-- each worker that changes was there as it says, when its turn comes
abbrev pub Fits : List Worker → List Change → Type 0
Fits ws [] = Unit {0}
Fits ws (c ∷ cs) = (get_or ws c.place ended ≡ c.was) × (c.place < length ws) × Fits (set ws c.place c.now) cs

-- the sum of a weight over those that change, before and after
abbrev pub before : (Worker → ℕ) → List Change → ℕ
before f cs = sum (λ (c : Change). f c.was) cs

abbrev pub after : (Worker → ℕ) → List Change → ℕ
after f cs = sum (λ (c : Change). f c.now) cs

-- the same for worker i alone
abbrev pub before_at : (Worker → ℕ) → ℕ → List Change → ℕ
before_at f i cs = sum (λ (c : Change). hit c.place i * f c.was) cs

abbrev pub after_at : (Worker → ℕ) → ℕ → List Change → ℕ
after_at f i cs = sum (λ (c : Change). hit c.place i * f c.now) cs

-- there are as many workers as before
pub put_length : (ws : List Worker) (cs : List Change) → length (put ws cs) ≡ length ws
put_length ws [] = refl
put_length ws (c ∷ cs) = put_length (set ws c.place c.now) cs ∙ length-set ws c.place c.now

-- a sum over the workers changes by the weights of those that change
pub put_sum : (f : Worker → ℕ) (ws : List Worker) (cs : List Change) → Fits ws cs → sum f (put ws cs) + before f cs ≡ sum f ws + after f cs
unfolding sum
put_sum f ws [] h = refl
put_sum f ws (c ∷ cs) h =
    omega (arith, put_sum f (set ws c.place c.now) cs h.2, sum_set f ended ws c.place c.was c.now h.0 h.1)

-- so does a weight at one place
pub put_at : (f : Worker → ℕ) (i : ℕ) (ws : List Worker) (cs : List Change) → Fits ws cs
    → f (get_or (put ws cs) i ended) + before_at f i cs ≡ f (get_or ws i ended) + after_at f i cs
unfolding sum
put_at f i ws [] h = refl
put_at f i ws (c ∷ cs) h =
    omega (arith, put_at f i (set ws c.place c.now) cs h.2, at_set f ended ws c.place c.was c.now i h.0 h.1)

-- what holds of every worker still does, where it holds of those that change
pub put_each : (P : Worker → Type 0) (ws : List Worker) (cs : List Change) → ((i : ℕ) → P (get_or ws i ended))
    → Every (λ (c : Change). P c.now) cs → (i : ℕ) → P (get_or (put ws cs) i ended)
put_each P ws [] h t = h
put_each P ws (c ∷ cs) h t = put_each P (set ws c.place c.now) cs (each_set P ws c.place c.now ended h t.0) t.1

-- one worker, and two
abbrev pub one : ℕ → Worker → Worker → List Change
one b x y = record { place = b; was = x; now = y } ∷ []

abbrev pub two : ℕ → Worker → Worker → ℕ → Worker → Worker → List Change
two b x y a x' y' = record { place = b; was = x; now = y } ∷ one a x' y'

-- two workers that were so change
pub fits_two : (ws : List Worker) (b a : ℕ) (x y x' y' : Worker) → get_or ws b ended ≡ x → b < length ws
    → get_or ws a ended ≡ x' → a < length ws → a ≢ b → Fits ws (two b x y a x' y')
fits_two ws b a x y x' y' e h e' h' n = (e, h, (get_or-set_other ws b a y ended n ∙ e', rw length-set h', tt))

-- ---- replies

-- how many of those that change were without a reply and have such a one afterwards
abbrev pub replied : (Worker → ℕ) → List Change → ℕ
replied f cs = sum (λ (c : Change). waits c.was * f c.now) cs

module _ (f : Worker → ℕ) (z : f asking ≡ 0) where
  -- an asker without a reply has none
  no_reply : (w : Worker) → waits w * f w ≡ 0
  no_reply idle = omega arith
  no_reply asking = omega (arith, z)
  no_reply denied = omega arith
  no_reply ended = omega arith
  no_reply (given rs) = omega arith
  no_reply (busy c n p rs) = omega arith

  pub replies_none : (ws : List Worker) → replies f ws ws ≡ 0
  unfolding replies
  replies_none [] = refl
  replies_none (w ∷ ws) = omega (arith, no_reply w, replies_none ws)

  -- one more worker changes: x is what it was at first, y what it was before this change
  replies_set : (ws ws' : List Worker) (b : ℕ) (x y w : Worker) → get_or ws b ended ≡ x → get_or ws' b ended ≡ y → b < length ws
      → b < length ws' → replies f ws (set ws' b w) + waits x * f y ≡ replies f ws ws' + waits x * f w
  unfolding replies
  replies_set [] ws' b x y w e e' h h' = absurd (omega arith)
  replies_set (v ∷ ws) [] b x y w e e' h h' = absurd (omega arith)
  replies_set (v ∷ ws) (v' ∷ ws') zero x y w e e' h h' = rw (e, e') (omega arith)
  replies_set (v ∷ ws) (v' ∷ ws') (suc b) x y w e e' h h' = omega (arith, replies_set ws ws' b x y w e e' (omega arith) (omega arith))

  pub replies_one : (ws : List Worker) (b : ℕ) (x y : Worker) → get_or ws b ended ≡ x → b < length ws
      → replies f ws (set ws b y) ≡ replied f (one b x y)
  unfolding sum
  replies_one ws b x y e h = omega (arith, replies_set ws ws b x x y e e h h, replies_none ws, no_reply x)

  pub replies_two : (ws : List Worker) (b a : ℕ) (x y x' y' : Worker) → get_or ws b ended ≡ x → b < length ws
      → get_or ws a ended ≡ x' → a < length ws → a ≢ b → replies f ws (set (set ws b y) a y') ≡ replied f (two b x y a x' y')
  unfolding sum
  replies_two ws b a x y x' y' e h e' h' n =
      omega (
        arith,
        replies_one ws b x y e h,
        replies_set ws (set ws b y) a x' x' y' e' (get_or-set_other ws b a y ended n ∙ e') h' (rw length-set h'),
        no_reply x',
      )
