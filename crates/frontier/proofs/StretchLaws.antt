-- The pairs of a stretch, one after the other, and the stretch of one worker.
use mathlib.Core.Path.{◌≡◌, refl, sym, ap, subst, ◌∙◌}
use mathlib.Core.Bool.{Bool, true, false}
use mathlib.Core.List.{List, [], ◌∷◌, ◌++◌, append_assoc, append-nil}
use Prim.Native.Nat.{ℕ, suc, ◌+◌, ◌-◌, ◌*◌, ◌≤◌, ◌<◌}
use native.Mathlib.Omega.{arith}
use lib.ListN.{length, get_or, take, drop, replicate, length-drop}
use lib.Seq.{drop-cons, take-suc}
use borrow.Author.Tests.{lt-ltb, le-ltb}
use Rattle.laws.specs.Decides.{Decides}
use Rattle.laws.specs.Every.{Every}
use Rattle.laws.specs.Sum.{sum}
use Rattle.laws.proofs.Decides.{never, decides_yes, decides_same}
use Rattle.graph.specs.Graph.{Graph}
use Rattle.machine.specs.Run.{Run, carried, pairs}
use Rattle.machine.specs.Sound.{Within, Whole, WholeButLast, WholeInside}
use Rattle.theorems.proofs.Runs.{whole_tail}
use Rattle.worker.specs.Registers.{status_given}
use Rattle.saved.specs.Layout.{runs_in}
use Rattle.frontier.specs.Runs.{run_of, RunIs, RunsSound, RunsCounted, runs_for, StretchSound, LoadIs}

-- ---- runs before and behind others

every_middle : {A : Type 0} (P : A → Type 0) (xs : List A) (r : A) (rs : List A) → Every P (xs ++ (r ∷ rs)) → P r
every_middle P [] r rs h = h.0
every_middle P (x ∷ xs) r rs h = every_middle P xs r rs h.1

module _ (G : Graph) where
  whole_behind : (xs rs : List Run) → WholeButLast G (xs ++ rs) → WholeButLast G rs
  whole_behind [] rs t = t
  whole_behind (x ∷ xs) rs t = whole_behind xs rs (whole_tail G x (xs ++ rs) t)

  -- the runs behind one are whole but for the last
  inside_behind : (xs : List Run) (r : Run) (rs : List Run) → WholeInside G (xs ++ (r ∷ rs)) → WholeButLast G rs
  inside_behind [] r rs t = t
  inside_behind (x ∷ xs) r rs t = whole_tail G r rs (whole_behind xs (r ∷ rs) t)

  -- one run more before those that are so
  whole_more : (r : Run) (rs : List Run) {w : Bool} → 0 < length rs → WholeButLast G rs → Decides w (Whole G r)
      → Decides w (WholeButLast G (r ∷ rs))
  whole_more r [] h t d = absurd (omega arith)
  whole_more r (q ∷ rs) h t d = decides_same d (λ p. (p, t)) (λ p. p.0)

  whole_one : (r : Run) (rs : List Run) → length rs ≡ 0 → WholeButLast G (r ∷ rs)
  whole_one r [] h = tt
  whole_one r (q ∷ rs) h = absurd (omega arith)

-- ---- the runs of words

-- no pair, or none that is a run
runs_short : (l : List ℕ) → length l ≤ 1 → runs_in l ≡ []
unfolding runs_in
runs_short [] h = refl
runs_short (f ∷ []) h = refl
runs_short (f ∷ e ∷ l) h = absurd (omega arith)

module _ (st : List ℕ) (i : ℕ) (h : 2 * i + 1 < length st) where
  two_left : drop (2 * i) st ≡ get_or st (2 * i) 0 ∷ get_or st (2 * i + 1) 0 ∷ drop (2 * (i + 1)) st
  two_left =
      let a : 2 * i + 1 ≡ suc (2 * i) = omega arith in
      let b : 2 * (i + 1) ≡ suc (suc (2 * i)) = omega arith in
      rw (a, b) (drop-cons st (2 * i) 0 (omega arith) ∙ ap (λ (l : List ℕ). get_or st (2 * i) 0 ∷ l) (drop-cons st (suc (2 * i)) 0 (omega arith)))

  two_taken : take (2 * (i + 1)) st ≡ take (2 * i) st ++ (get_or st (2 * i) 0 ∷ get_or st (2 * i + 1) 0 ∷ [])
  two_taken =
      let a : 2 * i + 1 ≡ suc (2 * i) = omega arith in
      let b : 2 * (i + 1) ≡ suc (suc (2 * i)) = omega arith in
      rw (a, b)
      (take-suc st (suc (2 * i)) 0 (omega arith)
      ∙ ap (λ (l : List ℕ). l ++ (get_or st (suc (2 * i)) 0 ∷ [])) (take-suc st (2 * i) 0 (omega arith))
      ∙ append_assoc (take (2 * i) st) (get_or st (2 * i) 0 ∷ []) (get_or st (suc (2 * i)) 0 ∷ []))

  pub runs_none : get_or st (2 * i + 1) 0 ≤ get_or st (2 * i) 0 → runs_in (drop (2 * i) st) ≡ []
  unfolding runs_in
  runs_none q = rw (two_left, le-ltb _ _ q)

  pub runs_one : get_or st (2 * i) 0 < get_or st (2 * i + 1) 0
      → runs_in (drop (2 * i) st) ≡ runs_in (drop (2 * (i + 1)) st) ++ (run_of (get_or st (2 * i) 0) (get_or st (2 * i + 1) 0) ∷ [])
  unfolding runs_in
  runs_one q = rw (two_left, lt-ltb _ _ q)

pub runs_out : (st : List ℕ) (i : ℕ) → length st ≤ 2 * i + 1 → runs_in (drop (2 * i) st) ≡ []
runs_out st i h = runs_short (drop (2 * i) st) (rw length-drop (omega arith))

-- ---- `check_runs`: the runs of the pairs passed

pub record RunsAt (G : Graph) (ms st : List ℕ) (total : ℕ) (whole : Bool) (i : ℕ) : Type 0 where
  pub high : 2 * i ≤ length st
  pub runs : List Run
  pub number : length runs ≡ i
  pub words : take (2 * i) st ≡ pairs runs
  pub left : runs_in st ≡ runs_in (drop (2 * i) st) ++ runs
  pub total_is : total ≡ carried runs
  pub within : Every (Within G ms) runs
  pub inside : WholeInside G runs
  pub flag : Decides whole (WholeButLast G runs)
  pub low : total ≤ 4294967296 * i

pub runs_start : {G : Graph} {ms st : List ℕ} → RunsAt G ms st 0 true 0
unfolding carried sum pairs
runs_start {st = st} =
    record {
      high = omega arith;
      runs = [];
      number = refl;
      words = refl;
      left = sym (append-nil (runs_in st));
      total_is = refl;
      within = tt;
      inside = tt;
      flag = decides_yes tt;
      low = omega arith;
    }

module _ {G : Graph} {ms st : List ℕ} {total : ℕ} {whole : Bool} {i : ℕ} (x : RunsAt G ms st total whole i) where
  -- no pair is left
  pub runs_end : {p : ℕ} → p ≡ i → runs_in (drop (2 * i) st) ≡ []
      → RunsCounted G ms st (record { pairs = p; carried = total })
  runs_end same none =
      let all : runs_in st ≡ x.runs = x.left ∙ ap (λ (l : List Run). l ++ x.runs) none in
      record {
        right =
            record {
              within = subst (λ (l : List Run). Every (Within G ms) l) (sym all) x.within;
              whole = subst (λ (l : List Run). WholeInside G l) (sym all) x.inside;
            };
        number = same ∙ sym x.number ∙ ap length (sym all);
        words = ap (λ (k : ℕ). take (2 * k) st) same ∙ x.words ∙ ap pairs (sym all);
        total = x.total_is ∙ ap carried (sym all);
        room = omega (arith, x.high);
        low = omega (arith, x.low, x.high);
      }

  module _ (h : 2 * i + 1 < length st) (pair : get_or st (2 * i) 0 < get_or st (2 * i + 1) 0) where
    abbrev r : Run
    r = run_of (get_or st (2 * i) 0) (get_or st (2 * i + 1) 0)

    split : runs_in st ≡ runs_in (drop (2 * (i + 1)) st) ++ (r ∷ x.runs)
    split =
        x.left
        ∙ ap (λ (l : List Run). l ++ x.runs) (runs_one st i h pair)
        ∙ append_assoc (runs_in (drop (2 * (i + 1)) st)) (r ∷ []) x.runs

    -- a run behind the pair is not whole
    pub runs_part : whole ≡ false → RunsSound G ms (runs_in st) → ⊥
    runs_part f s =
        let t = subst (λ (l : List Run). WholeInside G l) split s.whole in
        never (x.flag.known (inside_behind G (runs_in (drop (2 * (i + 1)) st)) r x.runs t)) f

    -- the pair is no run of the graph
    pub runs_wrong_run : ¬ Within G ms r → RunsSound G ms (runs_in st) → ⊥
    runs_wrong_run n s =
        let rest = runs_in (drop (2 * (i + 1)) st) in
        n (every_middle (Within G ms) rest r x.runs (subst (λ (l : List Run). Every (Within G ms) l) split s.within))

    module _ {own : Bool} (found : RunIs G ms (get_or st (2 * i) 0) (get_or st (2 * i + 1) 0) own) where
      pub runs_next : {whole' : Bool} → whole ≡ true
          → Decides whole' (WholeButLast G (r ∷ x.runs)) → get_or st (2 * i + 1) 0 < 4294967296
          → RunsAt G ms st (total + (get_or st (2 * i + 1) 0 - get_or st (2 * i) 0)) whole' (i + 1)
      unfolding carried sum pairs
      runs_next w d small =
          let ends : get_or st (2 * i) 0 + suc (get_or st (2 * i + 1) 0 - suc (get_or st (2 * i) 0)) ≡ get_or st (2 * i + 1) 0 = omega arith in
          record {
            high = omega arith;
            runs = r ∷ x.runs;
            number = omega (arith, x.number);
            words = two_taken st i h ∙ rw (x.words, ends);
            left = split;
            total_is = omega (arith, x.total_is);
            within = (found.within, x.within);
            inside = x.flag.right w;
            flag = d;
            low = omega (arith, x.low);
          }

      -- whether the runs with this one are whole but for the last
      pub flag_more : 0 < i → whole ≡ true → Decides own (WholeButLast G (r ∷ x.runs))
      flag_more q w = whole_more G r x.runs (omega (arith, x.number)) (x.flag.right w) found.whole

    pub flag_one : i ≤ 0 → whole ≡ true → Decides whole (WholeButLast G (r ∷ x.runs))
    flag_one q w = rw w (decides_yes (whole_one G r x.runs (omega (arith, x.number))))

-- ---- `check_stretch`

pub runs_all : (status : ℕ) (st : List ℕ) → status_given ≤ status → runs_for status st ≡ runs_in st
runs_all status st h = rw (le-ltb status 4 h)

none_for : (status : ℕ) (st : List ℕ) → status < status_given → runs_for status st ≡ []
none_for status st h = rw (lt-ltb status 4 h)

-- no pairs, then all words
whole_left : (st : List ℕ) → replicate {A = ℕ} (length st) 0 ≡ replicate {A = ℕ} (length st - 0) 0
whole_left st = ap (λ (k : ℕ). replicate {A = ℕ} k 0) (omega arith)

module _ {G : Graph} {ms : List ℕ} {status batch : ℕ} {st : List ℕ} where
  -- a worker that carries nothing
  module _ (h : status < status_given) where
    pub stretch_idle : batch ≡ 0 → st ≡ replicate (length st) 0 → LoadIs G ms status batch st 0
    unfolding pairs carried sum
    stretch_idle z d =
        let none = none_for status st h in
        record {
          right =
              subst (λ (l : List Run). StretchSound G ms status batch st l) (sym none)
              record { within = tt; whole = tt; words = d ∙ whole_left st; supplied = λ q. absurd (omega arith); batch_carried = omega arith };
          total = ap carried (sym none);
          low = omega arith;
        }

    pub idle_zeros : StretchSound G ms status batch st (runs_for status st) → st ≡ replicate (length st) 0
    unfolding pairs
    idle_zeros s = (subst (λ (l : List Run). StretchSound G ms status batch st l) (none_for status st h) s).words ∙ sym (whole_left st)
