-- Sizes of nodes, from the capped sizes of those before them.
use Rattle.std.proofs.Common.{◌≡◌, ℕ, zero, suc, ◌+◌, ◌<◌, ◌≤◌, List, [], ◌∷◌, ◌++◌, map, length, get_or, take, refl, sym, ap, ◌∙◌, arith, length-take}
use Rattle.std.proofs.lemmas.List.{length-map, length_push, map-append, take_all, take_more}
use Rattle.std.specs.List.{fold}
use Rattle.syntax.specs.declared.cell.Cell.{Cell}
use Rattle.syntax.specs.Syntax.{FormSyntax, EquationSyntax, NodeSyntax, BlockSyntax, plain, delay, call}
use Rattle.layout.specs.declared.node.Equation.{Equation}
use Rattle.layout.specs.Layout.{form_in, equation_in}
use Rattle.rules.specs.Names.{node_at, no_node}
use Rattle.rules.specs.Size.{Size, no_size, plus, cells_in, form_size, equations_size, sizes_after, sizes}
use Rattle.checks.specs.Sizes.{capped_size}
use Rattle.checks.proofs.Totals.{capped-sum, capped_right}

-- a sum of capped sizes, capped, is the sum capped
capped-plus : (x y : Size) → capped_size (plus (capped_size x) (capped_size y)) ≡ capped_size (plus x y)
capped-plus x y = λ t. record { flows = capped-sum x.flows y.flows t; cells = capped-sum x.cells y.cells t }

capped-plus_right : (x y : Size) → capped_size (plus x (capped_size y)) ≡ capped_size (plus x y)
capped-plus_right x y = λ t. record { flows = capped_right x.flows y.flows t; cells = capped_right x.cells y.cells t }

plus_none : (x : Size) → plus x no_size ≡ x
plus_none x =
    let f : x.flows + 0 ≡ x.flows = omega arith in
    let c : x.cells + 0 ≡ x.cells = omega arith in
    λ t. record { flows = f t; cells = c t }

none_plus : (x : Size) → plus no_size x ≡ x
none_plus x =
    let f : 0 + x.flows ≡ x.flows = omega arith in
    let c : 0 + x.cells ≡ x.cells = omega arith in
    λ t. record { flows = f t; cells = c t }

plus_assoc : (x y z : Size) → plus (plus x y) z ≡ plus x (plus y z)
plus_assoc x y z =
    let f : x.flows + y.flows + z.flows ≡ x.flows + (y.flows + z.flows) = omega arith in
    let c : x.cells + y.cells + z.cells ≡ x.cells + (y.cells + z.cells) = omega arith in
    λ t. record { flows = f t; cells = c t }

-- the sizes of rows, added up one by one
module _ (b : BlockSyntax) (known : List Size) (cells : List Cell) where
  abbrev pub add_row : Size → Equation → Size
  add_row s e = capped_size (plus s (capped_size (form_size b known (form_in cells e.form))))

  abbrev pub added : ℕ → List Equation → Size
  added i rows = fold add_row no_size (take i rows)

  adds_from : (s : Size) (rows : List Equation) → fold add_row (capped_size s) rows ≡ capped_size (plus s (equations_size b known (map (equation_in cells) rows)))
  unfolding equations_size
  adds_from s [] = ap capped_size (sym (plus_none s))
  adds_from s (e ∷ rows) =
      let f = form_size b known (form_in cells e.form) in
      ap (λ r. fold add_row r rows) (capped-plus s f)
      ∙ adds_from (plus s f) rows
      ∙ ap capped_size (plus_assoc s f (equations_size b known (map (equation_in cells) rows)))

  pub added_all : (i : ℕ) (rows : List Equation) → length rows ≤ i → added i rows ≡ capped_size (equations_size b known (map (equation_in cells) rows))
  added_all i rows l =
      let none : no_size ≡ capped_size no_size = refl in
      ap (fold add_row no_size) (take_all i rows l)
      ∙ ap (λ r. fold add_row r rows) none
      ∙ adds_from no_size rows
      ∙ ap capped_size (none_plus (equations_size b known (map (equation_in cells) rows)))

-- capped sizes of the earlier nodes do as well as the exact ones
module _ (b : BlockSyntax) (exact : List Size) where
  capped_at : (xs : List Size) (m : ℕ) → get_or (map capped_size xs) m no_size ≡ capped_size (get_or xs m no_size)
  capped_at [] m = refl
  capped_at (x ∷ xs) zero = refl
  capped_at (x ∷ xs) (suc m) = capped_at xs m

  form_caps : (f : FormSyntax) → capped_size (form_size b (map capped_size exact) f) ≡ capped_size (form_size b exact f)
  form_caps (plain f e) = refl
  form_caps (delay f v e) = refl
  form_caps (call m rs es) =
      let own : Size = record { flows = (node_at b m).inputs + (node_at b m).locals; cells = cells_in es } in
      ap (λ s. capped_size (plus own s)) (capped_at exact m) ∙ capped-plus_right own (get_or exact m no_size)

  equations_caps : (es : List EquationSyntax) → capped_size (equations_size b (map capped_size exact) es) ≡ capped_size (equations_size b exact es)
  unfolding equations_size
  equations_caps [] = refl
  equations_caps (e ∷ es) =
      sym (capped-plus (form_size b (map capped_size exact) e.form) (equations_size b (map capped_size exact) es))
      ∙ (λ t. capped_size (plus (form_caps e.form t) (equations_caps es t)))
      ∙ capped-plus (form_size b exact e.form) (equations_size b exact es)

-- the sizes of one node more
sizes-push : (b : BlockSyntax) (earlier : List Size) (ns : List NodeSyntax) (n : NodeSyntax)
    → sizes_after b earlier (ns ++ (n ∷ [])) ≡ sizes_after b earlier ns ++ (equations_size b (sizes_after b earlier ns) n.equations ∷ [])
unfolding sizes_after
sizes-push b earlier [] n = refl
sizes-push b earlier (m ∷ ns) n = sizes-push b (earlier ++ (equations_size b earlier m.equations ∷ [])) ns n

length-sizes : (b : BlockSyntax) (earlier : List Size) (ns : List NodeSyntax) → length (sizes_after b earlier ns) ≡ length earlier + length ns
unfolding sizes_after
length-sizes b earlier [] = omega arith
length-sizes b earlier (m ∷ ns) =
    let s = equations_size b earlier m.equations in
    let rec = length-sizes b (earlier ++ (s ∷ [])) ns in
    let p = length_push earlier s in
    omega arith

-- the sizes of the first k nodes, capped
module _ (b : BlockSyntax) where
  abbrev pub sizes_below : ℕ → List Size
  sizes_below k = map capped_size (sizes_after b [] (take k b))

  pub sizes_none : sizes_below 0 ≡ []
  unfolding sizes_after
  sizes_none = refl

  pub sizes_many : (k : ℕ) → k ≤ length b → length (sizes_below k) ≡ k
  sizes_many k l = length-map (sizes_after b [] (take k b)) capped_size ∙ length-sizes b [] (take k b) ∙ simp length-take (omega arith)

  pub sizes_more : (k : ℕ) (s : Size) → k < length b → s ≡ capped_size (equations_size b (sizes_below k) (node_at b k).equations) → sizes_below k ++ (s ∷ []) ≡ sizes_below (k + 1)
  sizes_more k s l e =
      let before = sizes_after b [] (take k b) in
      let n = node_at b k in
      ap (λ r. sizes_below k ++ (r ∷ [])) (e ∙ equations_caps b before n.equations)
      ∙ sym (map-append capped_size before (equations_size b before n.equations ∷ []))
      ∙ ap (map capped_size) (sym (ap (sizes_after b []) (take_more b k no_node l) ∙ sizes-push b [] (take k b) n))

  pub sizes_all : (k : ℕ) → length b ≤ k → sizes_below k ≡ map capped_size (sizes b)
  sizes_all k l = ap (λ ns. map capped_size (sizes_after b [] ns)) (take_all k b l)
