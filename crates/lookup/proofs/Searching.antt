-- The search: names before `low` are below the bytes, and the bytes are below names from `high` on.
use Rattle.std.proofs.Common.{◌≡◌, ℕ, suc, ◌+◌, ◌*◌, ◌<◌, ◌≤◌, List, length, drop, sym, mul-le-mul_right, mul_comm, arith, length-drop, length-take-le, Some, None}
use Rattle.std.specs.declared.cmp.Ordering.TheVariants.{Less, Equal, Greater}
use Rattle.std.proofs.lemmas.Cmp.{nat_list_cmp_total}
use mathlib.Core.Logic.{by_cases}
use native.Mathlib.Decide.{dec_lt}
use Rattle.names.specs.Names.{window, order}
use Rattle.names.proofs.Orders.{order_flip, order_same, below_other}
use Rattle.lookup.specs.Search.{Ascends, FoundIs}

-- a name lies within the bytes of all
pub name_fits : (k w count : ℕ) {long : ℕ} → k < count → long ≡ w * count → k * w + w ≤ long
name_fits k w count h e = omega (arith, mul-le-mul_right {m = suc k} {n = count} w h, mul_comm w count)

pub name_long : (k w count : ℕ) (names : List ℕ) → k < count → length names ≡ w * count → length (window w names (k * w)) ≡ w
name_long k w count names h e =
    length-take-le w (drop (k * w) names) (omega (arith, length-drop (k * w) names, name_fits k w count h e))

pub record Between (names : List ℕ) (w count : ℕ) (bytes : List ℕ) (low high : ℕ) : Type 0 where
  pub ordered : low ≤ high
  pub inside : high ≤ count
  pub below : (k : ℕ) → k < low → order (window w names (k * w)) bytes ≡ Less
  pub above : (k : ℕ) → high ≤ k → k < count → order bytes (window w names (k * w)) ≡ Less

module _ {names : List ℕ} {w count : ℕ} {bytes : List ℕ} {low high : ℕ} (a : Ascends names w count) (b : Between names w count bytes low high) where
  -- a look at name m between them
  module _ (m : ℕ) (l : low ≤ m) (h : m < high) where
    pub between_down : order bytes (window w names (m * w)) ≡ Less → Between names w count bytes low m
    between_down e =
        let i = b.inside in
        record {
          ordered = l;
          inside = omega arith;
          below = b.below;
          above = λ (k : ℕ) (p : m ≤ k) (q : k < count).
              by_cases (dec_lt m k)
              (λ (r : m < k). nat_list_cmp_total.trans bytes (window w names (m * w)) (window w names (k * w)) e (a m k r q))
              (λ (r : ¬ (m < k)). let s : k ≡ m = omega arith in rw s e);
        }

    pub between_up : order bytes (window w names (m * w)) ≡ Greater → Between names w count bytes (m + 1) high
    between_up e =
        let i = b.inside in
        let f = order_flip bytes (window w names (m * w)) e in
        record {
          ordered = omega arith;
          inside = i;
          below = λ (k : ℕ) (p : k < m + 1).
              by_cases (dec_lt k m)
              (λ (r : k < m). nat_list_cmp_total.trans (window w names (k * w)) (window w names (m * w)) bytes (a k m r (omega arith)) f)
              (λ (r : ¬ (k < m)). let s : k ≡ m = omega arith in rw s f);
          above = b.above;
        }

    pub between_found : order bytes (window w names (m * w)) ≡ Equal → FoundIs names w count bytes (Some m)
    between_found e = let i = b.inside in (omega arith, order_same bytes (window w names (m * w)) e)

  -- nothing is between them
  pub between_none : high ≤ low → FoundIs names w count bytes None
  between_none h = λ (k : ℕ) (q : k < count) (e : bytes ≡ window w names (k * w)).
      by_cases (dec_lt k low)
      (λ (r : k < low). below_other (window w names (k * w)) bytes (b.below k r) (sym e))
      (λ (r : ¬ (k < low)). below_other bytes (window w names (k * w)) (b.above k (omega arith) q) e)
