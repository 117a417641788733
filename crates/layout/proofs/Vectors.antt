-- An element more in a vector, one fewer, and another.
use Rattle.std.proofs.Common.{◌≡◌, ℕ, suc, ◌+◌, ◌-◌, ◌<◌, ◌≤◌, List, [], ◌∷◌, ◌++◌, length, get_or, take, replicate, slice_set, sym, ap, ◌∙◌, arith, length-append, length-set}
use Rattle.std.proofs.Math.Seq.{set-append_seam, take-set-lt}
use Rattle.std.proofs.lemmas.List.{take_more_set, take_more, take-set, take-take, set-append_left, append_assoc, length-take-le}
use Rattle.layout.specs.Vectors.{padded}
use Rattle.layout.specs.VectorLaws.{length-padded, counted}

-- none, and blanks
pub none : {A : Type 0} (n : ℕ) (d : A) → replicate n d ≡ padded n d []
none n d = let e : n ≡ n - 0 = omega arith in ap (λ m. replicate m d) e

-- the elements before place k, what stands there, and blanks
between : {A : Type 0} (n : ℕ) (d x : A) (front : List A) (k : ℕ) → k < n → length front ≡ k → padded n d (front ++ x ∷ []) ≡ front ++ x ∷ replicate (n - (k + 1)) d
between n d x front k h few =
    let count : length (front ++ x ∷ []) ≡ k + 1 = length-append front (x ∷ []) ∙ ap (λ j. j + 1) few in
    ap (λ j. (front ++ x ∷ []) ++ replicate (n - j) d) count ∙ append_assoc front (x ∷ []) (replicate (n - (k + 1)) d)

-- and so where that is a blank
blank_next : {A : Type 0} (n : ℕ) (d : A) (front : List A) (k : ℕ) → k < n → length front ≡ k → padded n d front ≡ front ++ d ∷ replicate (n - (k + 1)) d
blank_next n d front k h few = let more : n - length front ≡ suc (n - (k + 1)) = omega (arith, few) in ap (λ j. front ++ replicate j d) more

module _ {A : Type 0} (n : ℕ) (d : A) (places : List A) where
  -- over the first blank it is the last element, and what is past it stays blank
  pub pushed : (k : ℕ) (x : A) → k < n → places ≡ padded n d (take k places) → slice_set places k x ≡ padded n d (take (k + 1) (slice_set places k x))
  pushed k x h e =
      let front = take k places in
      let rest = replicate (n - (k + 1)) d in
      let few = counted n d places k (omega arith) e in
      let long : length places ≡ n = ap length e ∙ length-padded n d front (omega (arith, few)) in
      ap (λ xs. slice_set xs k x) (e ∙ blank_next n d front k h few)
      ∙ ap (λ j. slice_set (front ++ d ∷ rest) j x) (sym few)
      ∙ set-append_seam front d rest x
      ∙ sym (between n d x front k h few)
      ∙ ap (padded n d) (sym (take_more_set places k x (omega (arith, long))))

  -- with a blank over it the last element is gone, and what is past the others is blank
  pub popped : (m k : ℕ) → m ≡ k + 1 → k < n → places ≡ padded n d (take m places) → slice_set places k d ≡ padded n d (take k (slice_set places k d))
  popped m k s h p =
      let front = take k places in
      let x = get_or places k d in
      let rest = replicate (n - (k + 1)) d in
      let most = counted n d places m (omega (arith, s)) p in
      let long : length places ≡ n = ap length p ∙ length-padded n d (take m places) (omega (arith, s, most)) in
      let few : length front ≡ k = omega (arith, length-take-le k places (omega (arith, long))) in
      let split : take m places ≡ front ++ x ∷ [] = ap (λ j. take j places) s ∙ take_more places k d (omega (arith, long)) in
      ap (λ xs. slice_set xs k d) (p ∙ ap (padded n d) split ∙ between n d x front k h few)
      ∙ ap (λ j. slice_set (front ++ x ∷ rest) j d) (sym few)
      ∙ set-append_seam front x rest d
      ∙ sym (blank_next n d front k h few)
      ∙ ap (padded n d) (sym (take-set places k d))

  -- another element at a place that has one, and what is past the elements stays blank
  pub replaced : (k i : ℕ) (x : A) → i < k → k ≤ n → places ≡ padded n d (take k places) → slice_set places i x ≡ padded n d (take k (slice_set places i x))
  replaced k i x l h e =
      let front = take k places in
      let few = counted n d places k h e in
      ap (λ xs. slice_set xs i x) e
      ∙ set-append_left front (replicate (n - length front) d) i x (omega (arith, few))
      ∙ ap (λ j. slice_set front i x ++ replicate (n - j) d) (sym (length-set front i x))
      ∙ ap (padded n d) (sym (take-set-lt k places i x l))

-- the elements before the last stay the same
pub kept : {A : Type 0} (c m k : ℕ) (d : A) (places : List A) → m ≡ k + 1 → c ≤ k → take c (take k (slice_set places k d)) ≡ take c (take m places)
kept c m k d places s h =
    ap (take c) (take-set places k d) ∙ take-take c k places h ∙ sym (take-take c m places (omega (arith, s)))
