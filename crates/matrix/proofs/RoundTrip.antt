-- The text that export writes is the text of a file; what import reads from it are the offsets and targets again.
use mathlib.Core.Path.{◌≡◌, refl, ap, sym, subst, ◌∙◌}
use mathlib.Core.Bool.{Bool, true, false}
use mathlib.Core.List.{List, [], ◌∷◌, ◌++◌, map, append_assoc}
use Prim.Native.Nat.{ℕ, zero, suc, ◌+◌, ◌-◌, ◌*◌, ◌/◌, ◌%◌, ◌^◌, ◌≤◌, ◌<◌}
use native.Mathlib.Nat.{pow-suc}
use native.Mathlib.Omega.{arith}
use lib.Dec.{ltb}
use lib.ListN.{length, take, length-append, length-map}
use lib.Seq.{ext_get_or, take-add, take-length}
use borrow.Author.Tests.{lt-ltb, le-ltb, le-leb, ltb-true, ltb-false}
use Rattle.laws.specs.Choice.{pick}
use Rattle.laws.specs.Blocks.{laid}
use Rattle.laws.specs.Every.{Every}
use Rattle.laws.specs.Test.{all}
use Rattle.laws.specs.Grouping.{grouped, starts}
use Rattle.laws.proofs.Every.{every_append}
use Rattle.laws.proofs.Test.{both_is}
use Rattle.laws.proofs.Grouping.{map_append, length_starts, get_or_starts}
use Rattle.laws.proofs.Ordered.{grouped_is, below_is}
use Rattle.refusal.proofs.None.{first_none}
use Rattle.graph.specs.Graph.{Graph, graph, objects, references, first, after, references_of}
use Rattle.graph.specs.Formed.{Formed}
use Rattle.graph.specs.Limits.{most_objects, most_references}
use Rattle.graph.proofs.OverMarked.{after_limit}
use Rattle.graph.proofs.View.{view_part}
use Rattle.records.specs.Store.{Pair, offsets_of, targets_of, pairs as store_pairs}
use Rattle.records.specs.Fill.{from_of, to_of}
use Rattle.text.specs.Text.{digits_in, decimal}
use Rattle.desk.specs.Checks.{graph_faults}
use Rattle.matrix.specs.Layout.{banner, space, feed, stopped, Digit, Numeral, value_from, value, Written, pair_line, Numerals, File, text_of, Proper}
use Rattle.matrix.specs.Reading.{is_text, rows, entries, pairs}
use Rattle.matrix.specs.Import.{from_zero, store_of, is_inside, inside, fault}
use Rattle.matrix.specs.Export.{pairs_from, pairs_below, line_of, exported, export_fault}
use Rattle.matrix.specs.Promise.{values_of, Says, Returns}
use Rattle.matrix.specs.Steps.{pair_at, Exportable}
use Rattle.matrix.proofs.Decimals.{one_digit, more_digits, one_more}
use Rattle.matrix.proofs.Texts.{part_length, part_inside}
use Rattle.matrix.proofs.Forms.{text_passes, text_says}
use Rattle.matrix.proofs.Exports.{exportable, some_object}
use Rattle.matrix.proofs.Checks.{store_objects, same_pairs}

-- ---- a number written and read

digits_are : (k v : ℕ) → Every Digit (digits_in k v)
unfolding digits_in
digits_are zero v = tt
digits_are (suc k) v = go (ltb v 10) refl (digits_are k (v / 10))
  where
    go : (b : Bool) → ltb v 10 ≡ b → Every Digit (digits_in k (v / 10)) → Every Digit (pick b ((48 + v) ∷ []) (digits_in k (v / 10) ++ ((48 + v % 10) ∷ [])))
    go true e h = let l = ltb-true v 10 e in (record { low = omega arith; high = omega arith }, tt)
    go false e h = every_append Digit (digits_in k (v / 10)) ((48 + v % 10) ∷ []) h (record { low = omega arith; high = omega arith }, tt)

few_digits : (j k v : ℕ) → v < 10 ^ suc j → length (digits_in k v) ≤ suc j
unfolding digits_in
few_digits j zero v h = omega arith
few_digits zero (suc k) v h = omega (arith, ap length (one_digit k v (omega (arith, pow-suc 10 0))))
few_digits (suc j) (suc k) v h = go (ltb v 10) refl (few_digits j k (v / 10) (omega (arith, pow-suc 10 (suc j))))
  where
    go : (b : Bool) → ltb v 10 ≡ b → length (digits_in k (v / 10)) ≤ suc j → length (digits_in (suc k) v) ≤ suc (suc j)
    go true e i = omega (arith, ap length (one_digit k v (ltb-true v 10 e)))
    go false e i = omega (arith, one_more k v (ltb-false v 10 e))

some_digits : (k v : ℕ) → 0 < length (digits_in (suc k) v)
some_digits k v = go (ltb v 10) refl
  where
    go : (b : Bool) → ltb v 10 ≡ b → 0 < length (digits_in (suc k) v)
    go true e = omega (arith, ap length (one_digit k v (ltb-true v 10 e)))
    go false e = omega (arith, one_more k v (ltb-false v 10 e))

value_snoc : (x : ℕ) (s : List ℕ) (b : ℕ) → value_from x (s ++ (b ∷ [])) ≡ value_from x s * 10 + (b - 48)
unfolding value_from
value_snoc x [] b = refl
value_snoc x (c ∷ s) b = value_snoc (x * 10 + (c - 48)) s b

value_one : (k v : ℕ) → v < 10 → value (digits_in (suc k) v) ≡ v
unfolding value_from
value_one k v h = ap value (one_digit k v h) ∙ omega arith

value_is : (k v : ℕ) → v < 10 ^ suc k → value (digits_in (suc k) v) ≡ v
value_is zero v h = value_one 0 v (omega (arith, pow-suc 10 0))
value_is (suc k) v h = go (ltb v 10) refl (value_is k (v / 10) (omega (arith, pow-suc 10 (suc k))))
  where
    go : (b : Bool) → ltb v 10 ≡ b → value (digits_in (suc k) (v / 10)) ≡ v / 10 → value (digits_in (suc (suc k)) v) ≡ v
    go true e i = value_one (suc k) v (ltb-true v 10 e)
    go false e i =
        ap value (more_digits (suc k) v (ltb-false v 10 e)) ∙ value_snoc 0 (digits_in (suc k) (v / 10)) (48 + v % 10) ∙ omega (arith, i)

-- the numbers of a graph have few digits
numeral : (v : ℕ) → v < 10000000000 → Numeral (decimal v)
unfolding decimal
numeral v h = record { some = some_digits 19 v; few = few_digits 9 20 v h; digits = digits_are 20 v }

worth : (v : ℕ) → v < 10000000000 → value (decimal v) ≡ v
unfolding decimal
worth v h = value_is 19 v (omega arith)

-- ---- the file of a graph

abbrev written : Pair → Written
written p = record { from = decimal (suc p.from); to = decimal (suc p.to) }

abbrev graph_file : Graph → File
graph_file G =
    record {
      remarks = [];
      rows = decimal (objects G);
      columns = decimal (objects G);
      entries = decimal (references G);
      pairs = map written (pairs_below G (objects G));
    }

laid_written : (ps : List Pair) → laid pair_line (map written ps) ≡ laid line_of ps
unfolding laid
laid_written [] = refl
laid_written (p ∷ ps) = ap (λ (l : List ℕ). line_of p ++ l) (laid_written ps)

file_text : (G : Graph) → text_of (graph_file G) ≡ exported G
unfolding text_of exported laid
file_text G =
    let a = stopped (decimal (objects G)) space in
    let c = stopped (decimal (references G)) feed in
    let b = laid line_of (pairs_below G (objects G)) in
    ap (λ (l : List ℕ). banner ++ (a ++ (a ++ (c ++ l)))) (laid_written (pairs_below G (objects G)))
    ∙ ap (λ (l : List ℕ). banner ++ (a ++ l)) (sym (append_assoc a c b)) ∙ ap (λ (l : List ℕ). banner ++ l) (sym (append_assoc a (a ++ c) b))

-- ---- the stored list by object

-- both ends are objects
record Ends (n : ℕ) (p : Pair) : Type 0 where
  pub from_below : p.from < n
  pub to_below : p.to < n

module _ (G : Graph) (X : Exportable G) where
  F : Formed G
  F = X.formed

  pairs_length : (v : ℕ) → v ≤ objects G → length (pairs_below G v) ≡ first G v
  unfolding pairs_below
  pairs_length zero h = sym F.from_zero
  pairs_length (suc v) h =
      length-append (pairs_below G v) (pairs_from v (references_of G v))
      ∙ omega (
        arith,
        pairs_length v (omega arith),
        length-map (references_of G v) (λ (t : ℕ). pair_at v t),
        part_length G X v h,
        F.rises v h,
      )

  to_again : (v : ℕ) (ts : List ℕ) → map to_of (pairs_from v ts) ≡ ts
  to_again v [] = refl
  to_again v (t ∷ ts) = ap (λ (l : List ℕ). t ∷ l) (to_again v ts)

  pairs_to : (v : ℕ) → v ≤ objects G → map to_of (pairs_below G v) ≡ take (first G v) G.targets
  unfolding pairs_below
  pairs_to zero h = rw F.from_zero
  pairs_to (suc v) h =
      let d = view_part G v h (F.rises v h) (after_limit G F v h) in
      let e : after G v ≡ first G v + (after G v - first G v) = omega (arith, F.rises v h) in
      map_append to_of (pairs_below G v) (pairs_from v (references_of G v))
      ∙ ap (λ (l : List ℕ). l ++ map to_of (pairs_from v (references_of G v))) (pairs_to v (omega arith))
      ∙ ap (λ (l : List ℕ). take (first G v) G.targets ++ l) (to_again v (references_of G v) ∙ d)
      ∙ sym (ap (λ (k : ℕ). take k G.targets) e ∙ take-add (first G v) (after G v - first G v) G.targets)

  keys_from : (v : ℕ) (ts : List ℕ) → Every (λ (p : Pair). from_of p ≡ v) (pairs_from v ts)
  keys_from v [] = tt
  keys_from v (t ∷ ts) = (refl, keys_from v ts)

  next : (v : ℕ) → pairs_below G (suc v) ≡ pairs_below G v ++ pairs_from v (references_of G v)
  unfolding pairs_below
  next v = refl

  none : pairs_below G 0 ≡ []
  unfolding pairs_below
  none = refl

  starts_are : starts from_of (objects G) (pairs_below G (objects G)) ≡ G.offsets
  starts_are =
      let n = objects G in
      let l : length (starts from_of n (pairs_below G n)) ≡ n + 1 = length_starts from_of n (pairs_below G n) in
      ext_get_or 0 (starts from_of n (pairs_below G n)) G.offsets (l ∙ omega (arith, F.some))
      (λ i h.
      let w : i ≤ n = omega (arith, l) in
      get_or_starts from_of n i (pairs_below G n) w
      ∙ below_is from_of (λ (v : ℕ). pairs_from v (references_of G v)) (pairs_below G) none next (λ v. keys_from v (references_of G v)) n i w
      ∙ pairs_length i w)

  targets_are : map to_of (grouped from_of (objects G) (pairs_below G (objects G))) ≡ G.targets
  targets_are =
      ap (map to_of) (grouped_is from_of (λ (v : ℕ). pairs_from v (references_of G v)) (pairs_below G) none next (λ v. keys_from v (references_of G v)) (objects G))
      ∙ pairs_to (objects G) (omega arith) ∙ ap (λ (k : ℕ). take k G.targets) F.to_all ∙ take-length G.targets

  -- every stored pair is of two objects
  ends_from : (v : ℕ) (ts : List ℕ) → v < objects G → Every (λ (t : ℕ). t < objects G) ts → Every (Ends (objects G)) (pairs_from v ts)
  ends_from v [] h g = tt
  ends_from v (t ∷ ts) h g = (record { from_below = h; to_below = g.0 }, ends_from v ts h g.1)

  inside_view : (v : ℕ) → v < objects G → Every (λ (t : ℕ). t < objects G) (references_of G v)
  inside_view v h = part_inside G X v h

  ends_below : (v : ℕ) → v ≤ objects G → Every (Ends (objects G)) (pairs_below G v)
  unfolding pairs_below
  ends_below zero h = tt
  ends_below (suc v) h =
      every_append (Ends (objects G)) (pairs_below G v) (pairs_from v (references_of G v)) (ends_below v (omega arith))
      (ends_from v (references_of G v) h (inside_view v h))

  numerals : (ps : List Pair) → Every (Ends (objects G)) ps → Every Numerals (map written ps)
  numerals [] h = tt
  numerals (p ∷ ps) h =
      let a = h.0.from_below in
      let b = h.0.to_below in
      let f = X.few in
      (record { from_is = numeral (suc p.from) (omega arith); to_is = numeral (suc p.to) (omega arith) }, numerals ps h.1)

  file_proper : Proper (graph_file G)
  file_proper =
      let n = X.few in
      let m = X.few_references in
      record {
        remarks_are = tt;
        rows_is = numeral (objects G) (omega arith);
        columns_is = numeral (objects G) (omega arith);
        entries_is = numeral (references G) (omega arith);
        pairs_are = numerals (pairs_below G (objects G)) (ends_below (objects G) (omega arith));
        square = refl;
        counted =
            worth (references G) (omega arith) ∙ sym F.to_all ∙ sym (pairs_length (objects G) (omega arith))
            ∙ sym (length-map (pairs_below G (objects G)) written);
      }

  -- ---- what is read

  said : Says (graph_file G) (exported G)
  said = subst (Says (graph_file G)) (file_text G) (text_says (graph_file G) file_proper)

  rows_are : rows (exported G) ≡ objects G
  rows_are = said.rows_are ∙ worth (objects G) (omega (arith, X.few))

  entries_are : entries (exported G) ≡ references G
  entries_are = said.entries_are ∙ worth (references G) (omega (arith, X.few_references))

  -- counted from 1
  abbrev from_one : Pair → Pair
  from_one p = pair_at (suc p.from) (suc p.to)

  values_are : (ps : List Pair) → Every (Ends (objects G)) ps → map values_of (map written ps) ≡ map from_one ps
  values_are [] h = refl
  values_are (p ∷ ps) h =
      let a = h.0.from_below in
      let b = h.0.to_below in
      let f = X.few in
      ap (λ (x : ℕ). pair_at x (value (decimal (suc p.to))) ∷ map values_of (map written ps)) (worth (suc p.from) (omega arith))
      ∙ ap (λ (x : ℕ). pair_at (suc p.from) x ∷ map values_of (map written ps)) (worth (suc p.to) (omega arith))
      ∙ ap (λ (l : List Pair). from_one p ∷ l) (values_are ps h.1)

  pairs_are : pairs (exported G) ≡ map from_one (pairs_below G (objects G))
  pairs_are = said.pairs_are ∙ values_are (pairs_below G (objects G)) (ends_below (objects G) (omega arith))

  zero_again : (ps : List Pair) → map from_zero (map from_one ps) ≡ ps
  zero_again [] = refl
  zero_again (p ∷ ps) =
      let a : suc p.from - 1 ≡ p.from = omega arith in
      let b : suc p.to - 1 ≡ p.to = omega arith in
      ap (λ (x : ℕ). pair_at x (suc p.to - 1) ∷ map from_zero (map from_one ps)) a
      ∙ ap (λ (x : ℕ). pair_at p.from x ∷ map from_zero (map from_one ps)) b ∙ ap (λ (l : List Pair). p ∷ l) (zero_again ps)

  all_inside : (ps : List Pair) → Every (Ends (objects G)) ps → all (is_inside (objects G)) (map from_one ps) ≡ true
  unfolding all
  all_inside [] h = refl
  all_inside (p ∷ ps) h =
      let a = h.0.from_below in
      let b = h.0.to_below in
      both_is
      (both_is (both_is (lt-ltb 0 (suc p.from) (omega arith)) (le-leb (suc p.from) (objects G) (omega arith)))
      (both_is (lt-ltb 0 (suc p.to) (omega arith)) (le-leb (suc p.to) (objects G) (omega arith))))
      (all_inside ps h.1)

  pub no_fault : 2 ≤ length G.offsets → fault (exported G) ≡ 0
  unfolding fault inside
  no_fault some =
      let t : is_text (exported G) ≡ true = subst (λ (l : List ℕ). is_text l ≡ true) (file_text G) (text_passes (graph_file G) file_proper) in
      let i = all_inside (pairs_below G (objects G)) (ends_below (objects G) (omega arith)) in
      rw (
        t,
        rows_are,
        entries_are,
        pairs_are,
        le-ltb (objects G) 1 (omega arith),
        le-ltb most_objects (objects G) X.few,
        le-ltb most_references (references G) X.few_references,
        i,
      )

  store_pairs_lem : store_pairs (store_of (exported G)) ≡ pairs_below G (objects G)
  store_pairs_lem = same_pairs (pairs (exported G)) ∙ ap (map from_zero) pairs_are ∙ zero_again (pairs_below G (objects G))

  pub offsets_again : offsets_of (store_of (exported G)) ≡ G.offsets
  offsets_again =
      ap (λ (k : ℕ). starts from_of k (store_pairs (store_of (exported G)))) (store_objects (exported G) ∙ rows_are)
      ∙ ap (starts from_of (objects G)) store_pairs_lem ∙ starts_are

  pub targets_again : targets_of (store_of (exported G)) ≡ G.targets
  targets_again =
      ap (λ (k : ℕ). map to_of (grouped from_of k (store_pairs (store_of (exported G))))) (store_objects (exported G) ∙ rows_are)
      ∙ ap (λ (l : List Pair). map to_of (grouped from_of (objects G) l)) store_pairs_lem ∙ targets_are

-- importing an export gives the same offsets and targets
returns : (os ts : List ℕ) → graph_faults os ts ≡ 0 → Returns os ts
returns os ts z =
    let X = exportable os ts z in
    record {
      accepted = no_fault (graph os ts) X (some_object os ts z);
      offsets_are = offsets_again (graph os ts) X;
      targets_are = targets_again (graph os ts) X;
    }

-- the same of a call that found no fault
pub promised : (os ts : List ℕ) (bytes : ℕ) {k : ℕ} → k ≡ export_fault os ts bytes → k ≡ 0 → Returns os ts
unfolding export_fault
promised os ts bytes e z = returns os ts (first_none (graph_faults os ts) _ (sym e ∙ z)).0
