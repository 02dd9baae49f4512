-- The pairs that scans find are the mentions.
use mathlib.Core.Path.{◌≡◌, refl, sym, ap, ◌∙◌}
use mathlib.Core.List.{List, [], ◌∷◌, ◌++◌}
use mathlib.Core.Logic.{⊎_elim}
use Prim.Native.Nat.{ℕ, zero, suc, ◌+◌, ◌*◌, ◌<◌}
use native.Mathlib.Omega.{arith}
use lib.ListN.{length, get_or, replicate, length-append, length-replicate}
use Rattle.laws.specs.Sum.{sum, hit}
use Rattle.laws.proofs.Sum.{hit_same, hit_equal, sum_append, either_positive}
use Rattle.changes.specs.Pairs.{Pair, pair, paired, leading}
use Rattle.names.specs.Names.{Names}
use Rattle.names.specs.Mentions.{mentions, texts_from, sources, targets}
use Rattle.names.specs.Occurs.{Mentioned}
use Rattle.names.specs.Call.{Texts, each, from, to}
use Rattle.names.proofs.Texts.{targets_cons, targets_none}
use Rattle.names.proofs.Checks.{Sound}
use Rattle.names.proofs.Occurs.{exact}

-- ---- pairs

pub paired_append : (fs ts fs' ts' : List ℕ) → length ts ≡ length fs → paired (fs ++ fs') (ts ++ ts') ≡ paired fs ts ++ paired fs' ts'
unfolding paired
paired_append [] [] fs' ts' h = refl
paired_append [] (t ∷ ts) fs' ts' h = absurd (omega arith)
paired_append (f ∷ fs) [] fs' ts' h = absurd (omega arith)
paired_append (f ∷ fs) (t ∷ ts) fs' ts' h = ap (λ (l : List Pair). pair f t ∷ l) (paired_append fs ts fs' ts' (omega arith))

pub leading_append : (u v : ℕ) (fs ts fs' ts' : List ℕ) → length ts ≡ length fs
    → leading u v (paired (fs ++ fs') (ts ++ ts')) ≡ leading u v (paired fs ts) + leading u v (paired fs' ts')
leading_append u v fs ts fs' ts' h =
    ap (λ (ps : List Pair). leading u v ps) (paired_append fs ts fs' ts' h)
    ∙ sum_append (λ (p : Pair). hit u p.from * hit v p.to) (paired fs ts) (paired fs' ts')

-- the pairs of one owner
block : (u v o : ℕ) (m : List ℕ) → leading u v (paired (replicate (length m) o) m) ≡ hit u o * sum (hit v) m
unfolding paired sum
block u v o [] = omega arith
block u v o (x ∷ m) = omega (arith, block u v o m)

product_positive : (a b : ℕ) → 0 < a * b → (0 < a) × (0 < b)
product_positive zero b h = absurd (omega (arith, h))
product_positive (suc a) zero h = absurd (omega (arith, h))
product_positive (suc a) (suc b) h = (omega arith, omega arith)

-- ---- texts and their owners

module _ (N : Names) (u v : ℕ) where
  one : (text : List ℕ) (texts : List (List ℕ)) (o : ℕ) (owners : List ℕ)
      → leading u v (paired (sources N (text ∷ texts) (o ∷ owners)) (targets N (text ∷ texts)))
      ≡ hit u o * sum (hit v) (mentions N text) + leading u v (paired (sources N texts owners) (targets N texts))
  unfolding sources
  one text texts o owners =
      rw (targets_cons N text texts)
      (leading_append u v (replicate (length (mentions N text)) o) (mentions N text) (sources N texts owners) (targets N texts)
      (sym (length-replicate (length (mentions N text)) o))
      ∙ ap (λ (k : ℕ). k + leading u v (paired (sources N texts owners) (targets N texts))) (block u v o (mentions N text)))

  -- a pair is a mention in one of the texts
  found : (texts : List (List ℕ)) (owners : List ℕ) → length owners ≡ length texts → 0 < leading u v (paired (sources N texts owners) (targets N texts))
      → (i : ℕ) × (i < length texts) × (get_or owners i 0 ≡ u) × (0 < sum (hit v) (mentions N (get_or texts i [])))
  unfolding sources paired sum
  found [] owners h p = absurd (omega arith)
  found (t ∷ ts) [] h p = absurd (omega arith)
  found (t ∷ ts) (o ∷ owners) h p =
      ⊎_elim
      (λ (q : 0 < hit u o * sum (hit v) (mentions N t)).
      let z = product_positive (hit u o) (sum (hit v) (mentions N t)) q in
      (0, omega arith, sym (hit_equal u o z.0), z.1))
      (λ (q : 0 < leading u v (paired (sources N ts owners) (targets N ts))).
      let r = found ts owners (omega arith) q in
      (suc r.0, omega (arith, r.1), r.2, r.3))
      (either_positive (hit u o * sum (hit v) (mentions N t)) (leading u v (paired (sources N ts owners) (targets N ts)))
      (omega (arith, p, one t ts o owners)))

  -- and a mention is a pair
  listed : (texts : List (List ℕ)) (owners : List ℕ) → length owners ≡ length texts → (i : ℕ) → i < length texts → get_or owners i 0 ≡ u
      → 0 < sum (hit v) (mentions N (get_or texts i [])) → 0 < leading u v (paired (sources N texts owners) (targets N texts))
  listed [] owners h i l e p = absurd (omega arith)
  listed (t ∷ ts) [] h i l e p = absurd (omega arith)
  listed (t ∷ ts) (o ∷ owners) h zero l e p =
      let a = hit_same u in
      let b : hit u o ≡ 1 = rw e a in
      let c = ap (λ (k : ℕ). k * sum (hit v) (mentions N t)) b in
      omega (arith, p, one t ts o owners)
  listed (t ∷ ts) (o ∷ owners) h (suc i) l e p = omega (arith, one t ts o owners, listed ts owners (omega arith) i (omega arith) e p)

texts_long : (start : ℕ) (ends bytes : List ℕ) → length (texts_from start ends bytes) ≡ length ends
unfolding texts_from
texts_long start [] bytes = refl
texts_long start (e ∷ ends) bytes = ap suc (texts_long e ends bytes)

pub alike : (N : Names) (texts : List (List ℕ)) (owners : List ℕ) → length owners ≡ length texts → length (targets N texts) ≡ length (sources N texts owners)
unfolding sources
alike N [] owners h = ap length (targets_none N)
alike N (t ∷ ts) [] h = absurd (omega arith)
alike N (t ∷ ts) (o ∷ owners) h =
    omega (
      arith,
      ap length (targets_cons N t ts),
      length-append (mentions N t) (targets N ts),
      length-append (replicate (length (mentions N t)) o) (sources N ts owners),
      length-replicate (length (mentions N t)) o,
      alike N ts owners (omega arith),
    )

module _ {N : Names} {T : Texts} (s : Sound N T) (u v : ℕ) where
  owned : length T.owners ≡ length (each T)
  owned = s.owned ∙ sym (texts_long 0 T.ends T.bytes)

  pub pair_mention : 0 < leading u v (paired (from N T) (to N T)) → Mentioned N T u v
  pair_mention h =
      let r = found N u v (each T) T.owners owned h in
      record {
        text = r.0;
        there = omega (arith, r.1, texts_long 0 T.ends T.bytes);
        owner = r.2;
        occurs = (exact N s.long s.some (get_or (each T) r.0 []) v).0 r.3;
      }

  pub mention_pair : Mentioned N T u v → 0 < leading u v (paired (from N T) (to N T))
  mention_pair m =
      listed N u v (each T) T.owners owned m.text (omega (arith, m.there, texts_long 0 T.ends T.bytes)) m.owner
      ((exact N s.long s.some (get_or (each T) m.text []) v).1 m.occurs)

  pub lists_alike : length (to N T) ≡ length (from N T)
  lists_alike = alike N (each T) T.owners owned
