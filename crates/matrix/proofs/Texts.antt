-- The text of a graph, line by line: how long it is, and what stands in the buffer while it is written.
use mathlib.Core.Path.{◌≡◌, refl, ap, sym, ◌∙◌}
use mathlib.Core.Logic.{by_cases}
use native.Mathlib.Decide.{dec_lt}
use mathlib.Core.List.{List, [], ◌∷◌, ◌++◌, append_assoc, append-nil}
use Prim.Native.Nat.{ℕ, zero, suc, ◌+◌, ◌-◌, ◌*◌, ◌≤◌, ◌<◌}
use native.Mathlib.Numerals.{add-one}
use native.Mathlib.Nat.{mul-le-mul_left}
use native.Mathlib.Omega.{arith}
use mathlib.Core.Bool.{Bool, true, false}
use lib.Dec.{leb}
use borrow.Author.Tests.{le-leb, lt-leb}
use Rattle.std.specs.Int.{from_bool}
use lib.ListN.{length, get_or, take, drop, length-append, length-drop, take-append-drop, drop_of_length-le}
use lib.Seq.{take-suc, length-take-le, get_or-take, get_or-drop, drop-drop}
use Rattle.laws.specs.Blocks.{laid}
use Rattle.laws.specs.Every.{Every}
use Rattle.laws.specs.Sum.{sum}
use Rattle.laws.proofs.Sum.{sum_append, sum_snoc}
use Rattle.laws.proofs.Every.{every_at, every_map}
use Rattle.laws.proofs.Blocks.{laid_append}
use Rattle.laws.proofs.Grouping.{map_append}
use Rattle.graph.specs.Graph.{Graph, objects, references, first, after, references_of}
use Rattle.graph.specs.Formed.{Formed}
use Rattle.graph.specs.Limits.{most_objects}
use Rattle.graph.proofs.OverMarked.{after_limit}
use Rattle.graph.proofs.View.{view_part}
use Rattle.slices.specs.Put.{Put}
use Rattle.slices.proofs.Written.{same_long, nothing, then, as_text}
use Rattle.text.specs.Text.{decimal}
use Rattle.matrix.specs.Layout.{banner, space, feed, stopped}
use Rattle.matrix.specs.Export.{pairs_from, pairs_below, line_of, counts_line, exported}
use Rattle.matrix.specs.Steps.{pair_at, short, digits_at, Exportable, Listable, Printable}
use Rattle.matrix.proofs.Decimals.{width_one, width_more}

-- ---- one line

-- the line, with the numbers as the code has them
line_is : (f t : ℕ) → stopped (decimal (f + 1)) space ++ stopped (decimal (t + 1)) feed ≡ line_of (pair_at f t)
line_is f t = rw (add-one f, add-one t)

stopped_length : (d : List ℕ) (x : ℕ) → length (stopped d x) ≡ suc (length d)
stopped_length d x = length-append d (x ∷ []) ∙ omega arith

pub line_length : (f t : ℕ) → length (line_of (pair_at f t)) ≡ suc (length (decimal (f + 1))) + suc (length (decimal (t + 1)))
line_length f t =
    sym (ap length (line_is f t))
    ∙ length-append (stopped (decimal (f + 1)) space) (stopped (decimal (t + 1)) feed)
    ∙ omega (arith, stopped_length (decimal (f + 1)) space, stopped_length (decimal (t + 1)) feed)

module _ (f t : ℕ) {before mid : List ℕ} {at end : ℕ} (p : Put before at (stopped (decimal (f + 1)) space) mid end) where
  pub line_put : {end' : ℕ} {last : List ℕ} → Put mid end (stopped (decimal (t + 1)) feed) last end' → Put before at (line_of (pair_at f t)) last end'
  line_put q = as_text (line_is f t) (then p q)

-- ---- the first line and the counts

pub head_length : (n m : ℕ) → length (banner ++ counts_line n m) ≡ 49 + (suc (length (decimal n)) + (suc (length (decimal n)) + suc (length (decimal m))))
head_length n m =
    let a = stopped (decimal n) space in
    let c = stopped (decimal m) feed in
    omega (
      arith,
      length-append banner (counts_line n m),
      length-append a (a ++ c),
      length-append a c,
      stopped_length (decimal n) space,
      stopped_length (decimal m) feed,
    )

pub head_put : (n m : ℕ) {b0 b1 b2 b3 b4 : List ℕ} {e1 e2 e3 e4 : ℕ} → Put b0 0 banner b1 e1 → Put b1 e1 (stopped (decimal n) space) b2 e2
    → Put b2 e2 (stopped (decimal n) space) b3 e3 → Put b3 e3 (stopped (decimal m) feed) b4 e4 → Put b0 0 (banner ++ counts_line n m) b4 e4
head_put n m p q r s =
    let a = stopped (decimal n) space in
    let c = stopped (decimal m) feed in
    as_text
    (append_assoc (banner ++ a) a c ∙ append_assoc banner a (a ++ c))
    (then (then (then p q) r) s)

-- ---- the lines of one object

module _ (v : ℕ) where
  abbrev lines : List ℕ → List ℕ
  lines ts = laid line_of (pairs_from v ts)

  lines_append : (s t : List ℕ) → lines (s ++ t) ≡ lines s ++ lines t
  lines_append s t = ap (laid line_of) (map_append (λ (x : ℕ). pair_at v x) s t) ∙ laid_append line_of (pairs_from v s) (pairs_from v t)

  lines_one : (t : ℕ) → lines (t ∷ []) ≡ line_of (pair_at v t)
  unfolding laid
  lines_one t = append-nil (line_of (pair_at v t))

  module _ (ts : List ℕ) (e : ℕ) (h : e < length ts) where
    pub lines_next : lines (take (e + 1) ts) ≡ lines (take e ts) ++ line_of (pair_at v (get_or ts e 0))
    lines_next =
        ap (λ (k : ℕ). lines (take k ts)) (add-one e) ∙ ap lines (take-suc ts e 0 h) ∙ lines_append (take e ts) (get_or ts e 0 ∷ [])
        ∙ ap (λ (l : List ℕ). lines (take e ts) ++ l) (lines_one (get_or ts e 0))

    pub lines_longer : length (lines (take (e + 1) ts)) ≡ length (lines (take e ts)) + length (line_of (pair_at v (get_or ts e 0)))
    lines_longer = ap length lines_next ∙ length-append (lines (take e ts)) (line_of (pair_at v (get_or ts e 0)))

    -- room for the next one
    lines_within : length (lines (take (e + 1) ts)) ≤ length (lines ts)
    lines_within =
        let s = sym (ap lines (take-append-drop (e + 1) ts)) ∙ lines_append (take (e + 1) ts) (drop (e + 1) ts) in
        omega (arith, ap length s, length-append (lines (take (e + 1) ts)) (lines (drop (e + 1) ts)))

  -- the first e lines are written
  pub record Object (ts out₀ : List ℕ) (at e : ℕ) (out : List ℕ) (end : ℕ) : Type 0 where
    pub able : Printable v ts out₀ at
    pub passed : e ≤ length ts
    pub put : Put out₀ at (lines (take e ts)) out end

module _ {v : ℕ} {ts out₀ : List ℕ} {at : ℕ} where
  pub object_start : Printable v ts out₀ at → Object v ts out₀ at 0 out₀ at
  unfolding laid
  object_start p = record { able = p; passed = omega arith; put = nothing (omega (arith, p.room)) }

  module _ {e end : ℕ} {out : List ℕ} (a : Object v ts out₀ at e out end) (h : e < length ts) where
    pub target_small : get_or ts e 0 < most_objects
    target_small = every_at (λ (t : ℕ). t < most_objects) ts e 0 a.able.listable.targets_few h

    pub object_room : end + length (line_of (pair_at v (get_or ts e 0))) ≤ length out
    object_room = omega (arith, a.put.ends, same_long a.put, lines_longer v ts e h, lines_within v ts e h, a.able.room)

    pub object_next : {out' : List ℕ} {end' : ℕ} → Put out end (line_of (pair_at v (get_or ts e 0))) out' end' → Object v ts out₀ at (e + 1) out' end'
    object_next q = record { able = a.able; passed = omega arith; put = as_text (sym (lines_next v ts e h)) (then a.put q) }

-- ---- all objects

-- the lines of the first v objects are written, behind the head
pub record Body (G : Graph) (out₀ : List ℕ) (start v : ℕ) (out : List ℕ) (end : ℕ) : Type 0 where
  pub passed : v ≤ objects G
  pub room : start + length (laid line_of (pairs_below G (objects G))) ≤ length out₀
  pub put : Put out₀ start (laid line_of (pairs_below G v)) out end

-- how long the text is: all but the numbers and their bytes in the lines of the objects from v on, of which the targets' digits are counted
pub record Measured (G : Graph) (v total : ℕ) : Type 0 where
  pub passed : v ≤ objects G
  pub total_is : total ≡ length (banner ++ counts_line (objects G) (references G)) + length (laid line_of (pairs_below G v)) + sum digits_at (drop (first G v) G.targets)
  pub low : total ≤ 100 + 5 * references G + 9 * first G v

module _ (G : Graph) (X : Exportable G) where
  body_next : (v : ℕ) → laid line_of (pairs_below G (v + 1)) ≡ laid line_of (pairs_below G v) ++ laid line_of (pairs_from v (references_of G v))
  unfolding pairs_below
  body_next v = rw (add-one v) (laid_append line_of (pairs_below G v) (pairs_from v (references_of G v)))

  body_longer : (v : ℕ) → length (laid line_of (pairs_below G (v + 1))) ≡ length (laid line_of (pairs_below G v)) + length (laid line_of (pairs_from v (references_of G v)))
  body_longer v = ap length (body_next v) ∙ length-append (laid line_of (pairs_below G v)) (laid line_of (pairs_from v (references_of G v)))

  -- later objects only add
  body_grows : (v k : ℕ) → length (laid line_of (pairs_below G v)) ≤ length (laid line_of (pairs_below G (v + k)))
  body_grows v zero = let e : v + 0 ≡ v = omega arith in rw e (omega arith)
  body_grows v (suc k) =
      let e : v + suc k ≡ v + k + 1 = omega arith in
      rw e (omega (arith, body_grows v k, body_longer (v + k)))

  pub text_length : length (exported G) ≡ length (banner ++ counts_line (objects G) (references G)) + length (laid line_of (pairs_below G (objects G)))
  unfolding exported
  text_length =
      let b = laid line_of (pairs_below G (objects G)) in
      let c = counts_line (objects G) (references G) in
      omega (arith, length-append banner (c ++ b), length-append c b, length-append banner c)

  pub counts_short : (objects G < short) × (references G < short)
  counts_short = (omega (arith, X.few), omega (arith, X.few_references))

  module _ (v : ℕ) (h : v < objects G) where
    F : Formed G
    F = X.formed

    pub its_part : references_of G v ≡ take (after G v - first G v) (drop (first G v) G.targets)
    its_part = view_part G v h (F.rises v h) (after_limit G F v h)

    pub part_length : length (references_of G v) ≡ after G v - first G v
    part_length =
        ap length its_part
        ∙ length-take-le (after G v - first G v) (drop (first G v) G.targets) (rw length-drop (omega (arith, F.rises v h, after_limit G F v h)))

    every_by : (l : List ℕ) → ((i : ℕ) → i < length l → get_or l i 0 < objects G) → Every (λ (t : ℕ). t < objects G) l
    every_by [] f = tt
    every_by (x ∷ l) f = (f 0 (omega arith), every_by l (λ i p. f (suc i) (omega arith)))

    -- its references lead to objects
    pub part_inside : Every (λ (t : ℕ). t < objects G) (references_of G v)
    part_inside =
        every_by (references_of G v)
        (λ i p.
        let w : i < after G v - first G v = omega (arith, part_length) in
        rw (its_part, get_or-take (after G v - first G v) (drop (first G v) G.targets) i 0 w, get_or-drop)
        (F.inside (first G v + i) (omega (arith, after_limit G F v h))))

    pub listable : Listable v (references_of G v)
    listable =
        record {
          few = omega (arith, X.few);
          targets_few =
              every_map (λ (t : ℕ). t < objects G) (λ (t : ℕ). t < most_objects) (references_of G v) (λ t q. omega (arith, q, X.few)) part_inside;
          few_references = omega (arith, part_length, after_limit G F v h, X.few_references);
        }

    -- room for its lines
    body_within : length (laid line_of (pairs_below G (v + 1))) ≤ length (laid line_of (pairs_below G (objects G)))
    body_within = let e : v + 1 + (objects G - (v + 1)) ≡ objects G = omega arith in rw e at (body_grows (v + 1) (objects G - (v + 1)))

  pub body_start : {b0 out : List ℕ} {start : ℕ} → length b0 ≡ length (exported G) → Put b0 0 (banner ++ counts_line (objects G) (references G)) out start
      → Body G out start 0 out start
  unfolding laid pairs_below
  body_start l p =
      record { passed = omega arith; room = omega (arith, p.ends, same_long p, text_length, l); put = nothing (omega (arith, p.fits, same_long p)) }

  module _ {out₀ : List ℕ} {start v : ℕ} {out : List ℕ} {end : ℕ} (a : Body G out₀ start v out end) (h : v < objects G) where
    pub body_printable : {ts : List ℕ} → ts ≡ references_of G v → Printable v ts out end
    body_printable e =
        rw e
        (record {
          listable = listable v h;
          room = omega (arith, a.put.ends, same_long a.put, a.room, body_longer v, body_within v h);
        })

    pub body_on : {ts out' : List ℕ} {end' : ℕ} → ts ≡ references_of G v → Put out end (laid line_of (pairs_from v ts)) out' end' → Body G out₀ start (v + 1) out' end'
    body_on e q =
        record {
          passed = omega arith;
          room = a.room;
          put = as_text (ap (λ (l : List ℕ). laid line_of (pairs_below G v) ++ laid line_of (pairs_from v l)) e ∙ sym (body_next v)) (then a.put q);
        }

  pub body_end : {b0 out₀ : List ℕ} {start v : ℕ} {out : List ℕ} {end : ℕ} → length b0 ≡ length (exported G)
      → Put b0 0 (banner ++ counts_line (objects G) (references G)) out₀ start → Body G out₀ start v out end → objects G ≤ v → out ≡ exported G
  unfolding exported
  body_end {b0} {out₀} {start} {v} {out} {end} l p a h =
      let q : v ≡ objects G = omega (arith, a.passed) in
      let w : Put b0 0 ((banner ++ counts_line (objects G) (references G)) ++ laid line_of (pairs_below G v)) out end = then p a.put in
      whole end (as_text (ap (λ (k : ℕ). (banner ++ counts_line (objects G) (references G)) ++ laid line_of (pairs_below G k)) q ∙ whole_text) w)
    where
      whole_text : (banner ++ counts_line (objects G) (references G)) ++ laid line_of (pairs_below G (objects G)) ≡ exported G
      whole_text = append_assoc banner (counts_line (objects G) (references G)) (laid line_of (pairs_below G (objects G)))

      whole : (e : ℕ) → Put b0 0 (exported G) out e → out ≡ exported G
      whole e w = w.holds ∙ rw (drop_of_length-le b0 {i = e} (omega (arith, w.ends, l))) (append-nil (exported G))

-- ---- lengths

-- a test as a number: 1 where a number is at least another, and 0 else
record Reaches (least v r : ℕ) : Type 0 where
  pub reached : least ≤ v → r ≡ 1
  pub missed : v < least → r ≡ 0
  pub low : r ≤ 1

reaches : (least v r : ℕ) → r ≡ from_bool (leb least v) → Reaches least v r
reaches least v r e =
    record { reached = λ h. e ∙ rw (le-leb least v h); missed = λ h. e ∙ rw (lt-leb least v h); low = rw e (bit (leb least v)) }
  where
    bit : (b : Bool) → from_bool b ≤ 1
    bit true = omega arith
    bit false = omega arith

-- an object's number has one to five digits
few : (v : ℕ) → v < most_objects → {a b c d : ℕ} → Reaches 9 v a → Reaches 99 v b → Reaches 999 v c → Reaches 9999 v d → suc (a + b + c + d) ≡ digits_at v
unfolding decimal
few v h p q r s =
    by_cases (dec_lt v 9) (λ (l : v < 9). omega (arith, p.missed l, q.missed (omega arith), r.missed (omega arith), s.missed (omega arith), width_one 19 (v + 1) (omega arith)))
    (λ (n₁ : ¬ (v < 9)). by_cases (dec_lt v 99)
    (λ (l : v < 99). omega (arith, p.reached (omega arith), q.missed l, r.missed (omega arith), s.missed (omega arith), width_more 0 18 (v + 1) (omega arith) (omega arith)))
    (λ (n₂ : ¬ (v < 99)). by_cases (dec_lt v 999)
    (λ (l : v < 999). omega (arith, p.reached (omega arith), q.reached (omega arith), r.missed l, s.missed (omega arith), width_more 1 17 (v + 1) (omega arith) (omega arith)))
    (λ (n₃ : ¬ (v < 999)). by_cases (dec_lt v 9999)
    (λ (l : v < 9999). omega (arith, p.reached (omega arith), q.reached (omega arith), r.reached (omega arith), s.missed l, width_more 2 16 (v + 1) (omega arith) (omega arith)))
    (λ (n₄ : ¬ (v < 9999)). omega (arith, p.reached (omega arith), q.reached (omega arith), r.reached (omega arith), s.reached (omega arith), width_more 3 15 (v + 1) (omega arith) (omega arith))))))

pub digits_few : (v : ℕ) → v < most_objects → {a b c d : ℕ} → a ≡ from_bool (leb 9 v) → b ≡ from_bool (leb 99 v) → c ≡ from_bool (leb 999 v)
    → d ≡ from_bool (leb 9999 v) → (suc (a + b + c + d) ≡ digits_at v) × (a + b + c + d ≤ 4)
digits_few v h {a} {b} {c} {d} e f g k =
    let p = reaches 9 v a e in
    let q = reaches 99 v b f in
    let r = reaches 999 v c g in
    let s = reaches 9999 v d k in
    (few v h p q r s, omega (arith, p.low, q.low, r.low, s.low))

-- the digits of the first e targets behind their first
pub record Counting (ts : List ℕ) (e more : ℕ) : Type 0 where
  pub able : Every (λ (t : ℕ). t < most_objects) ts
  pub passed : e ≤ length ts
  pub more_is : e + more ≡ sum digits_at (take e ts)
  pub low : more ≤ 4 * e

pub counting_start : {ts : List ℕ} → Every (λ (t : ℕ). t < most_objects) ts → Counting ts 0 0
unfolding sum
counting_start a = record { able = a; passed = omega arith; more_is = refl; low = omega arith }

module _ {ts : List ℕ} {e more : ℕ} (a : Counting ts e more) where
  pub counting_on : e < length ts → {x : ℕ} → (suc x ≡ digits_at (get_or ts e 0)) × (x ≤ 4) → Counting ts (e + 1) (more + x)
  counting_on h {x} p =
      let s = ap (λ (k : ℕ). sum digits_at (take k ts)) (add-one e) ∙ ap (sum digits_at) (take-suc ts e 0 h) ∙ sum_snoc digits_at (take e ts) (get_or ts e 0) in
      record { able = a.able; passed = omega arith; more_is = omega (arith, a.more_is, s, p.0); low = omega (arith, a.low, p.1) }

-- the lines of one object: as often its number and two bytes, and the numbers of the targets
lines_long : (v : ℕ) (ts : List ℕ) → length (laid line_of (pairs_from v ts)) ≡ length ts * (digits_at v + 2) + sum digits_at ts
unfolding laid sum
lines_long v [] = omega arith
lines_long v (t ∷ ts) =
    let l = length-append (line_of (pair_at v t)) (laid line_of (pairs_from v ts)) in
    omega (arith, l, line_length v t, lines_long v ts)

module _ (G : Graph) (X : Exportable G) where
  pub measured_start : {x y k : ℕ} → (x ≡ length (decimal (objects G))) × ((0 < x) × (x ≤ 7)) → (y ≡ length (decimal (references G))) × ((0 < y) × (y ≤ 7))
      → (references G + k ≡ sum digits_at G.targets) × (k ≤ 4 * references G)
      → Measured G 0 (49 + 2 * x + y + 3 + references G + k)
  unfolding laid pairs_below
  measured_start p q r =
      let z : first G 0 ≡ 0 = X.formed.from_zero in
      record {
        passed = omega arith;
        total_is = rw z (omega (arith, head_length (objects G) (references G), p.0, q.0, r.0));
        low = omega (arith, p.1.1, q.1.1, r.1);
      }

  module _ {v total : ℕ} (a : Measured G v total) where
    module _ (h : v < objects G) where
      -- the targets of the objects from v on are v's, and those of the objects behind it
      parts : sum digits_at (drop (first G v) G.targets) ≡ sum digits_at (references_of G v) + sum digits_at (drop (after G v) G.targets)
      parts =
          let l = drop (first G v) G.targets in
          let k = after G v - first G v in
          let e : first G v + k ≡ after G v = omega (arith, X.formed.rises v h) in
          ap (sum digits_at) (sym (take-append-drop k l)) ∙ sum_append digits_at (take k l) (drop k l)
          ∙ ap (λ (t : List ℕ). sum digits_at t + sum digits_at (drop k l)) (sym (its_part G X v h))
          ∙ ap (λ (t : List ℕ). sum digits_at (references_of G v) + sum digits_at t) (drop-drop k (first G v) G.targets ∙ ap (λ (i : ℕ). drop i G.targets) e)

      size_few : {x : ℕ} → x ≤ 7 → (after G v - first G v) * (x + 2) ≤ 9 * (after G v - first G v)
      size_few {x} p = omega (arith, mul-le-mul_left {m = x + 2} {n = 9} (after G v - first G v) (omega arith))

      pub measured_on : {x : ℕ} → (x ≡ digits_at v) × ((0 < x) × (x ≤ 7)) → Measured G (v + 1) (total + (after G v - first G v) * (x + 2))
      measured_on {x} p =
          let s : v + 1 ≡ suc v = omega arith in
          let rest = sum digits_at (references_of G v) in
          let m =
          lines_long v (references_of G v) ∙ ap (λ (k : ℕ). k * (digits_at v + 2) + rest) (part_length G X v h)
          ∙ ap (λ (y : ℕ). (after G v - first G v) * (y + 2) + rest) (sym p.0) in
          record {
            passed = omega arith;
            total_is = rw s (omega (arith, a.total_is, rw s at (body_longer G X v), m, parts));
            low = rw s (omega (arith, a.low, size_few p.1.1, X.formed.rises v h));
          }

    pub measured_end : objects G ≤ v → (total ≡ length (exported G)) × (total ≤ 100000000)
    unfolding sum
    measured_end h =
        let q : v ≡ objects G = omega (arith, a.passed) in
        let all : drop (first G v) G.targets ≡ [] = drop_of_length-le G.targets {i = first G v} (omega (arith, ap (first G) q, X.formed.to_all)) in
        let none : sum digits_at (drop (first G v) G.targets) ≡ 0 = rw all refl in
        let lines = ap (λ (k : ℕ). length (laid line_of (pairs_below G k))) q in
        (omega (arith, a.total_is, none, lines, text_length G X), omega (arith, a.low, ap (first G) q, X.formed.to_all, X.few_references))
