-- A name in a text stands at a place that may hold one; so what the places passed and the search say is what the text mentions.
use Rattle.std.proofs.Common.{◌≡◌, ℕ, ◌+◌, ◌*◌, ◌-◌, ◌≤◌, ◌<◌, List, [], ◌∷◌, ◌++◌, suc, length, get_or, take, drop, Some, None, sym, ap, ◌∙◌, add-one, arith, length-take, length-drop}
use mathlib.Core.Logic.{by_cases}
use native.Mathlib.Decide.{dec_lt}
use Rattle.names.specs.Names.{Names, count, window, name_at}
use Rattle.names.specs.Mentions.{named, mentions}
use Rattle.names.proofs.Orders.{below_other}
use Rattle.names.proofs.Mentions.{named_none, named_one, mentions_at, mentions_end, mentions_skip}
use Rattle.lookup.specs.Places.{Candidate, Barren, Next}
use Rattle.lookup.specs.Search.{FoundIs}
use Rattle.lookup.proofs.Tails.{window_at, tail_same}
use Rattle.lookup.proofs.Searching.{name_fits, name_long}
use Rattle.scan.specs.Passing.{Ready, Is}

module _ {N : Names} {index : List ℕ} (r : Ready N index) where
  -- a name in a text
  candidate : (text : List ℕ) (p k : ℕ) → k < count N → window N.width text p ≡ name_at N k → Candidate N.width index text p
  candidate text p k h e =
      let w = N.width in
      let some = r.some in
      let fits = name_fits k w (count N) h r.long in
      record {
        inside = omega (arith, ap length e, name_long k w (count N) N.bytes h r.long, length-take w (drop p text), length-drop p text);
        digits = λ (q : ℕ) (a : p ≤ q) (b : q < p + N.width).
            let s : p + (q - p) ≡ q = omega arith in
            let f = window_at N.width text p N.bytes (k * N.width) e (q - p) (omega arith) in
            rw (← s, f) (r.digits (k * N.width + (q - p)) (omega (arith, name_fits k N.width (count N) h r.long)));
        kept = λ f. rw (tail_same N.width text p N.bytes (k * N.width) f e) (r.indexed.kept f k h);
      }

  -- places that hold no name
  barren_named : {text : List ℕ} {a b : ℕ} → Barren N.width index text a b → (p : ℕ) → a ≤ p → p < b → named N (window N.width text p) ≡ []
  barren_named {text} x p l h = named_none N (window N.width text p) (λ k g e. x p l h (candidate text p k g e))

  -- names are distinct
  pub unique : (bytes : List ℕ) (i k : ℕ) → i < count N → k < count N → bytes ≡ name_at N i → bytes ≡ name_at N k → i ≡ k
  unique bytes i k h g e f =
      by_cases (dec_lt i k)
      (λ (p : i < k). absurd (below_other (name_at N i) (name_at N k) (r.ascends i k p g) (sym e ∙ f)))
      (λ (p : ¬ (i < k)).
      by_cases (dec_lt k i)
      (λ (q : k < i). absurd (below_other (name_at N k) (name_at N i) (r.ascends k i q h) (sym f ∙ e)))
      (λ (q : ¬ (k < i)). omega arith))

  -- what the search says
  pub found_one : (bytes : List ℕ) (k : ℕ) → k < count N → bytes ≡ name_at N k → named N bytes ≡ get_or N.objects k 0 ∷ []
  found_one bytes k h e = named_one N bytes k h e (λ i g f. unique bytes i k g h f e)

-- ---- the next mention

-- the mentions from where the search began are those from where it stands
pub record Seeking (N : Names) (text : List ℕ) (from at sure : ℕ) : Type 0 where
  pub low : from ≤ at
  pub high : at ≤ length text
  pub known : at ≤ sure
  pub left : mentions N (drop from text) ≡ mentions N (drop at text)

module _ {N : Names} {index : List ℕ} (r : Ready N index) {text : List ℕ} {from at sure : ℕ} (s : Seeking N text from at sure) where
  -- the same from a place on that nothing is before
  passed : {p : ℕ} → at ≤ p → p ≤ length text → Barren N.width index text at p → mentions N (drop from text) ≡ mentions N (drop p text)
  passed {p} l h x =
      let e : at + (p - at) ≡ p = omega arith in
      s.left ∙ (rw e at (mentions_skip N text (p - at) at (omega arith) (λ q a b. barren_named r x q a (omega arith))))

  -- nothing is left
  pub seek_none : Barren N.width index text at (length text) → mentions N (drop from text) ≡ []
  seek_none x = passed s.high (omega arith) x ∙ mentions_end N text (length text) (omega arith)

  module _ {p : ℕ} (x : Next N.width index text at p) where
    there : mentions N (drop from text) ≡ named N (window N.width text p) ++ mentions N (drop (suc p) text)
    there = let f = x.fits in let w = r.some in passed x.low (omega arith) x.barren ∙ mentions_at N text p (omega arith)

    pub seek_one : (k : ℕ) → FoundIs N.bytes N.width (count N) (take (p + N.width - p) (drop p text)) (Some k) → Is N text from (record { place = p; object = get_or N.objects k 0 })
    seek_one k f =
        let e : p + N.width - p ≡ N.width = omega arith in
        record {
          low = omega (arith, s.low, x.low);
          fits = x.fits;
          some = there ∙ rw (found_one r (window N.width text p) k f.0 (rw e at f.1));
        }

    pub seek_on : FoundIs N.bytes N.width (count N) (take (p + N.width - p) (drop p text)) None → Seeking N text from (p + 1) (p + N.width)
    seek_on f =
        let e : p + N.width - p ≡ N.width = omega arith in
        let w = r.some in
        let i = x.fits in
        record {
          low = omega (arith, s.low, x.low);
          high = omega arith;
          known = omega arith;
          left = there ∙ rw (named_none N (window N.width text p) (rw e at f), add-one);
        }
