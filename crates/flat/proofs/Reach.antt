-- It can be told which main flows reach which flows: by chains through the inner flows below a bound.
use Rattle.std.proofs.Common.{◌≡◌, ℕ, zero, suc, ◌<◌, ◌≤◌, Bool, true, false, ◌&&◌, ◌||◌, T, eqb, ltb, leb, ◌⊎◌, List, [], ◌∷◌, refl, subst, inl, inr, arith}
use Rattle.std.proofs.Math.Dec.{eqb_refl}
use Rattle.std.specs.Bool.{passes}
use Rattle.std.proofs.lemmas.Bool.{ltb-true, lt-ltb, leb-true, le-leb, eqb-true, cases_order}
use Rattle.flat.specs.Programs.{Program, size, sources}
use Rattle.flat.specs.Clearing.{In, here, there, Reaches, direct, onward, Marks, Marked}

-- ---- tests

is_true : (t : Bool) → T t → t ≡ true
is_true true h = refl
is_true false h = absurd h

both : (a b : Bool) → T a → T b → T (a && b)
both true b h k = k
both false b h k = h

first_of : (a b : Bool) → T (a && b) → T a
first_of true b h = tt
first_of false b h = h

second_of : (a b : Bool) → T (a && b) → T b
second_of true b h = h
second_of false b h = absurd h

or_first : (a b : Bool) → T a → T (a || b)
or_first true b h = tt
or_first false b h = absurd h

or_second : (a b : Bool) → T b → T (a || b)
or_second true b h = tt
or_second false b h = h

or_split : (a b : Bool) → T (a || b) → T a ⊎ T b
or_split true b h = inl tt
or_split false b h = inr h

-- ---- members

member : ℕ → List ℕ → Bool
member x [] = false
member x (y ∷ ys) = eqb x y || member x ys

member_in : (x : ℕ) (ys : List ℕ) → T (member x ys) → In x ys
unfolding member
member_in x [] h = absurd h
member_in x (y ∷ ys) h = by (or_split (eqb x y) (member x ys) h) (member_in x ys)
  where
    by : T (eqb x y) ⊎ T (member x ys) → (T (member x ys) → In x ys) → In x (y ∷ ys)
    by (inl e) rec = subst (λ z. In x (z ∷ ys)) (eqb-true x y (is_true (eqb x y) e)) here
    by (inr t) rec = there (rec t)

in_member : {x : ℕ} {ys : List ℕ} → In x ys → T (member x ys)
unfolding member
in_member {x} (here {xs = xs}) = or_first (eqb x x) (member x xs) (eqb_refl x)
in_member {x} (there {y = y} {xs = xs} i) = or_second (eqb x y) (member x xs) (in_member i)

-- ---- chains

module _ (p : Program) where
  edge : ℕ → ℕ → Bool
  edge d x = ltb x (size p) && member d (sources p x)

  inner : ℕ → Bool
  inner y = leb p.main y

  through : ℕ → ℕ → ℕ → Bool
  through zero d x = edge d x
  through (suc n) d x = through n d x || (inner n && (through n d n && through n n x))

  -- one more inner flow, either way
  more : (n d x : ℕ) → T (through n d x) → T (through (suc n) d x)
  unfolding through
  more n d x h = or_first (through n d x) (inner n && (through n d n && through n n x)) h

  via : (n d x : ℕ) → p.main ≤ n → T (through n d n) → T (through n n x) → T (through (suc n) d x)
  unfolding through inner
  via n d x i h k =
      or_second (through n d x) (inner n && (through n d n && through n n x))
      (both (inner n) (through n d n && through n n x) (passes (inner n) (le-leb p.main n i)) (both (through n d n) (through n n x) h k))

  split : (n d x : ℕ) → T (through (suc n) d x) → T (through n d x) ⊎ ((p.main ≤ n) × T (through n d n) × T (through n n x))
  unfolding through inner
  split n d x h = by (or_split (through n d x) (inner n && (through n d n && through n n x)) h)
    where
      by : T (through n d x) ⊎ T (inner n && (through n d n && through n n x)) → T (through n d x) ⊎ ((p.main ≤ n) × T (through n d n) × T (through n n x))
      by (inl t) = inl t
      by (inr t) =
          let rest = second_of (inner n) (through n d n && through n n x) t in
          inr (
            leb-true p.main n (is_true (inner n) (first_of (inner n) (through n d n && through n n x) t)),
            first_of (through n d n) (through n n x) rest,
            second_of (through n d n) (through n n x) rest,
          )

  edge_within : (d x : ℕ) → T (edge d x) → x < size p
  unfolding edge
  edge_within d x h = ltb-true x (size p) (is_true _ (first_of (ltb x (size p)) (member d (sources p x)) h))

  edge_in : (d x : ℕ) → T (edge d x) → In d (sources p x)
  unfolding edge
  edge_in d x h = member_in d (sources p x) (second_of (ltb x (size p)) (member d (sources p x)) h)

  an_edge : (d x : ℕ) → x < size p → In d (sources p x) → T (edge d x)
  unfolding edge
  an_edge d x h i = both (ltb x (size p)) (member d (sources p x)) (passes _ (lt-ltb x (size p) h)) (in_member i)

  start : (d x : ℕ) → T (edge d x) → T (through zero d x)
  unfolding through
  start d x h = h

  end : (d x : ℕ) → T (through zero d x) → T (edge d x)
  unfolding through
  end d x h = h

  -- a chain reaches
  farther : (n d y x : ℕ) → Reaches p d y → p.main ≤ y → T (through n y x) → Reaches p d x
  farther zero d y x w i h = onward w i (edge_within y x (end y x h)) (edge_in y x (end y x h))
  farther (suc n) d y x w i h = by (split n y x h) (farther n)
    where
      by : T (through n y x) ⊎ ((p.main ≤ n) × T (through n y n) × T (through n n x))
          → ((d y x : ℕ) → Reaches p d y → p.main ≤ y → T (through n y x) → Reaches p d x) → Reaches p d x
      by (inl t) rec = rec d y x w i t
      by (inr t) rec = rec d n x (rec d y n w i t.1) t.0 t.2

  reached : (n d x : ℕ) → d < p.main → T (through n d x) → Reaches p d x
  reached zero d x l h = direct (edge_within d x (end d x h)) l (edge_in d x (end d x h))
  reached (suc n) d x l h = by (split n d x h) (reached n)
    where
      by : T (through n d x) ⊎ ((p.main ≤ n) × T (through n d n) × T (through n n x))
          → ((d x : ℕ) → d < p.main → T (through n d x) → Reaches p d x) → Reaches p d x
      by (inl t) rec = rec d x l t
      by (inr t) rec = farther n d n x (rec d n l t.1) t.0 t.2

  -- what reaches is a chain
  edges : (n d x : ℕ) → T (edge d x) → T (through n d x)
  edges zero d x h = start d x h
  edges (suc n) d x h = more n d x (edges n d x h)

  joins : (n d y x : ℕ) → y < n → p.main ≤ y → T (through n d y) → T (through n y x) → T (through n d x)
  joins zero d y x l i h k = absurd (omega arith)
  joins (suc n) d y x l i h k = by (cases_order y n) (split n d y h) (split n y x k) (joins n)
    where
      to_n : y ≡ n → T (through n d y) ⊎ ((p.main ≤ n) × T (through n d n) × T (through n n y)) → T (through n d n)
      to_n e (inl t) = subst (λ z. T (through n d z)) e t
      to_n e (inr t) = t.1

      from_n : y ≡ n → T (through n y x) ⊎ ((p.main ≤ n) × T (through n y n) × T (through n n x)) → T (through n n x)
      from_n e (inl t) = subst (λ z. T (through n z x)) e t
      from_n e (inr t) = t.2

      parts : y < n → T (through n d y) ⊎ ((p.main ≤ n) × T (through n d n) × T (through n n y)) → T (through n y x) ⊎ ((p.main ≤ n) × T (through n y n) × T (through n n x))
          → ((d y x : ℕ) → y < n → p.main ≤ y → T (through n d y) → T (through n y x) → T (through n d x)) → T (through (suc n) d x)
      parts g (inl a) (inl b) rec = more n d x (rec d y x g i a b)
      parts g (inl a) (inr b) rec = via n d x b.0 (rec d y n g i a b.1) b.2
      parts g (inr a) (inl b) rec = via n d x a.0 a.1 (rec n y x g i a.2 b)
      parts g (inr a) (inr b) rec = via n d x a.0 a.1 b.2

      by : (y ≡ n) ⊎ ((y < n) ⊎ (n < y)) → T (through n d y) ⊎ ((p.main ≤ n) × T (through n d n) × T (through n n y)) → T (through n y x) ⊎ ((p.main ≤ n) × T (through n y n) × T (through n n x))
          → ((d y x : ℕ) → y < n → p.main ≤ y → T (through n d y) → T (through n y x) → T (through n d x)) → T (through (suc n) d x)
      by (inl e) a b rec = via n d x (subst (λ z. p.main ≤ z) e i) (to_n e a) (from_n e b)
      by (inr (inl g)) a b rec = parts g a b rec
      by (inr (inr g)) a b rec = absurd (omega arith)

  pub within : {d x : ℕ} → Reaches p d x → x < size p
  within (direct h l i) = h
  within (onward w l h i) = h

  pub from_main : {d x : ℕ} → Reaches p d x → d < p.main
  from_main (direct h l i) = l
  from_main (onward w l h i) = from_main w

  chained : {d x : ℕ} → Reaches p d x → T (through (size p) d x)
  chained {d} (direct {x = x} h l i) = edges (size p) d x (an_edge d x h i)
  chained {d} (onward {y = y} {x = x} w l h i) = joins (size p) d y x (within w) l (chained w) (edges (size p) y x (an_edge y x h i))

  marks : Marks p (λ d x. ltb d p.main && through (size p) d x)
  marks = record {
    sound = λ d x h.
        reached (size p) d x (ltb-true d p.main (is_true _ (first_of (ltb d p.main) (through (size p) d x) h))) (second_of (ltb d p.main) (through (size p) d x) h);
    complete = λ d x w. both (ltb d p.main) (through (size p) d x) (passes _ (lt-ltb d p.main (from_main w))) (chained w);
  }

pub marked : Marked
marked p = ((λ d x. ltb d p.main && through p (size p) d x), marks p)
