-- The table of a node, and what the rows of a table say.
use Rattle.std.proofs.Common.{◌≡◌, ℕ, ◌<◌, ◌≤◌, Bool, true, false, not, ◌&&◌, ltb, IsTrue, ◌⊎◌, List, [], ◌∷◌, ◌++◌, ◌+◌, length, map, take, get_or, All, Some, None, Option, position, zip, refl, sym, ap, ap₂, ◌∙◌, inl, inr, arith}
use Rattle.std.specs.List.{position_or_len}
use Rattle.std.proofs.lemmas.Bool.{both_ways, and_parts, and_cases, and_from, not-true, not-false, not_from_false, ltb-false}
use Rattle.std.proofs.lemmas.List.{get_or-map, get_or_default, length-map, map_more}
use Rattle.std.proofs.lemmas.List.Folds.{Any-from_list_any, list_any_at}
use Rattle.std.proofs.lemmas.List.Quantifiers.{position-Some}
use Rattle.std.proofs.lemmas.List.Sums.{fails_before_first}
use Rattle.std.proofs.lemmas.Slice.Zip.{get_or-zip, length-zip}
use Rattle.layout.specs.Vectors.{Items}
use Rattle.syntax.specs.Syntax.{NodeSyntax}
use Rattle.rules.specs.Names.{equation_at, no_equation}
use Rattle.order.specs.Waiting.{waits_on}
use Rattle.order.specs.Table.{wait_rows}
use Rattle.order.specs.Picking.{marked, is_held, Held, Stuck, Picked}

-- the marks of a node's table tell what waits on what
pub marked-wait_rows : (n : NodeSyntax) (x y : ℕ) → x < length n.equations → y < length n.equations → marked (get_or (wait_rows n) x []) y ≡ waits_on n (equation_at n x) (equation_at n y)
marked-wait_rows n x y hx hy =
    ap (λ row. marked row y) (get_or-map (λ e. map (waits_on n e) n.equations) n.equations x no_equation [] hx)
    ∙ get_or-map (waits_on n (equation_at n x)) n.equations y no_equation false hy

-- a row for each equation, and in each row a mark for each
pub square-wait_rows : (n : NodeSyntax) (rows : List (Items Bool)) → map (λ row. row.items) rows ≡ wait_rows n → All (λ row. length row.items ≡ length rows) rows
square-wait_rows n rows e k d l =
    let many : length rows ≡ length n.equations =
    sym (length-map rows (λ (row : Items Bool). row.items)) ∙ ap length e ∙ length-map n.equations (λ e. map (waits_on n e) n.equations) in
    ap length (sym (get_or-map (λ (row : Items Bool). row.items) rows k d [] l) ∙ ap (λ t. get_or t k []) e ∙ get_or-map (λ e. map (waits_on n e) n.equations) n.equations k no_equation [] (omega arith))
    ∙ length-map n.equations (waits_on n (equation_at n k))
    ∙ sym many

-- one more element of a list that two functions are mapped over
pub mapped_more : {A B C : Type 0} (f : B → C) (g : A → B) (xs : List A) (i : ℕ) (d : A) {ys : List C} {y : C} → ys ≡ map f (take i (map g xs)) → y ≡ f (g (get_or xs i d)) → i < length xs → ys ++ y ∷ [] ≡ map f (take (i + 1) (map g xs))
mapped_more f g xs i d {ys} {y} before here l =
    ap₂ (λ us u. us ++ u ∷ []) before (here ∙ ap f (sym (get_or-map g xs i d (g d) l)))
    ∙ sym (map_more f (map g xs) i (g d) (omega (arith, length-map xs g)))

-- where no element passes
pub none_at : {A : Type 0} (p : A → Bool) (xs : List A) (k : ℕ) (d : A) → position p xs ≡ None → k < length xs → p (get_or xs k d) ≡ false
none_at p xs k d e l = by (ltb (position_or_len p xs) (length xs)) refl
  where
    by : (b : Bool) → ltb (position_or_len p xs) (length xs) ≡ b → p (get_or xs k d) ≡ false
    by true q = absurd (let n = rw q at e in cc)
    by false q = fails_before_first p xs k d (omega (arith, ltb-false (position_or_len p xs) (length xs) q))

module _ (row done : List Bool) where
  -- the mark of the row at y beside that of what is done
  pair : (y : ℕ) → y < length row → y < length done → get_or (zip row done) y (false, false) ≡ (marked row y, marked done y)
  pair y hr hd = get_or-zip row done y (false, false) hr hd

  pub held_at : is_held row done ≡ true → (y : ℕ) × (y < length row) × (y < length done) × IsTrue (marked row y) × (marked done y ≡ false)
  held_at e =
      let a = Any-from_list_any (λ p. p.0 && not p.1) (zip row done) e in
      let hr : a.0 < length row = omega (arith, a.2, length-zip row done) in
      let hd : a.0 < length done = omega (arith, a.2, length-zip row done) in
      let is : (marked row a.0, marked done a.0) ≡ a.1 = sym (pair a.0 hr hd) ∙ get_or_default (zip row done) a.0 (false, false) a.1 a.2 ∙ a.3 in
      let parts = and_parts (marked row a.0) (not (marked done a.0)) (ap (λ p. p.0 && not p.1) is ∙ a.4) in
      (a.0, hr, hd, parts.0, not-true _ parts.1)

  pub done_at : is_held row done ≡ false → (y : ℕ) → y < length row → y < length done → IsTrue (marked row y) → IsTrue (marked done y)
  done_at e y hr hd m = by (marked done y) refl
    where
      by : (b : Bool) → marked done y ≡ b → b ≡ true
      by true p = refl
      by false p = absurd (both_ways _ e
          (list_any_at (λ p. p.0 && not p.1) (zip row done) y (false, false) (omega (arith, hr, hd, length-zip row done))
          (ap (λ p. p.0 && not p.1) (pair y hr hd) ∙ and_from _ _ m (not_from_false _ p))))

-- what a search of the rows, beside what is done, finds
module _ (rows : List (Items Bool)) (done : List Bool) (wide : length rows ≤ length done) (square : (x : ℕ) (d : Items Bool) → x < length rows → length (get_or rows x d).items ≡ length rows) where
  abbrev table : List (List Bool)
  table = map (λ row. row.items) rows

  abbrev is_next : Items Bool × Bool → Bool
  is_next p = not p.1 && not (is_held p.0.items done)

  abbrev no_row : Items Bool
  no_row = record { items = [] }

  length-table : length table ≡ length rows
  length-table = length-map rows (λ row. row.items)

  length-row : (x : ℕ) → x < length rows → length (get_or table x []) ≡ length rows
  length-row x h = ap length (get_or-map (λ (r : Items Bool). r.items) rows x no_row [] h) ∙ square x no_row h

  tested : (x : ℕ) → x < length rows → is_next (get_or (zip rows done) x (no_row, false)) ≡ (not (marked done x) && not (is_held (get_or table x []) done))
  tested x h =
      ap is_next (get_or-zip rows done x (no_row, false) h (omega arith))
      ∙ ap (λ r. not (marked done x) && not (is_held r done)) (sym (get_or-map (λ (r : Items Bool). r.items) rows x no_row [] h))

  pub picks : (r : Option ℕ) → r ≡ position is_next (zip rows done) → Picked table done r
  picks (Some x) e =
      let a = position-Some is_next (zip rows done) x (no_row, false) (sym e) in
      let h : x < length rows = omega (arith, a.0, length-zip rows done) in
      let parts = and_parts _ _ (sym (tested x h) ∙ a.1) in
      (omega (arith, h, length-table), not-true _ parts.0, λ y w. done_at (get_or table x []) done (not-true _ parts.1) y (omega (arith, w.1, length-table, length-row x h)) (omega (arith, w.1, length-table)) w.2)
  picks None e = λ x l. stuck x (omega (arith, length-table))
    where
      stuck : (x : ℕ) → x < length rows → Stuck table done x
      stuck x h unmarked = by (and_cases _ _ (sym (tested x h) ∙ none_at is_next (zip rows done) x (no_row, false) (sym e) (omega (arith, h, length-zip rows done))))
        where
          by : (not (marked done x) ≡ false) ⊎ (not (is_held (get_or table x []) done) ≡ false) → (y : ℕ) × Held table done x y
          by (inl p) = absurd (both_ways _ unmarked (not-false _ p))
          by (inr p) =
              let k = held_at (get_or table x []) done (not-false _ p) in
              (k.0, ((omega (arith, h, length-table), omega (arith, length-table, length-row x h, k.1), k.3), k.4))
