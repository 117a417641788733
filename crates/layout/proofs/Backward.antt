-- Rows that hold a block stand for it.
use Rattle.std.proofs.Common.{◌≡◌, ℕ, ◌+◌, ◌≤◌, List, [], ◌∷◌, ◌++◌, map, length, take, drop, sym, refl, ap, ◌∙◌, arith}
use Rattle.std.proofs.lemmas.List.{ext_get_or, get_or-take, length-take-le, drop-drop, take_all}
use Rattle.syntax.specs.declared.cell.Cell.{Cell}
use Rattle.syntax.specs.Syntax.{Expression, FormSyntax, EquationSyntax, NodeSyntax, BlockSyntax, plain, delay, call}
use Rattle.std.specs.List.{flat_map}
use Rattle.std.specs.List.{AllByRecursion}
use Rattle.syntax.specs.Laws.{FormFits, EquationFits, NodeFits}
use Rattle.layout.specs.declared.table.Table.{Table}
use Rattle.layout.specs.Blanks.{blank_cell}
use Rattle.layout.specs.Layout.{whole, form_cells, equation_cells, node_cells, block_cells, rows_from, span_row, form_row, equation_row, node_row, expression_in, form_in, equation_in, node_in}
use Rattle.layout.specs.Held.{Holds, block_in}

-- the cells stand among all cells from `from` on
abbrev pub CellsAt : List Cell → ℕ → List Cell → Type 0
CellsAt all from cs = take (length cs) (drop from all) ≡ cs

-- a front of a list that begins with a and b
front_parts : {A : Type 0} (a b xs : List A) → take (length (a ++ b)) xs ≡ a ++ b → (take (length a) xs ≡ a) × (take (length b) (drop (length a) xs) ≡ b)
front_parts [] b xs e = (refl, e)
front_parts {A} (x ∷ xa) b [] e = let z : ◌≡◌ {A = ℕ} 0 1 = cc in absurd (omega arith)
front_parts {A} (x ∷ xa) b (y ∷ ys) e =
    let h : y ≡ x = cc in
    let t : take (length (xa ++ b)) ys ≡ xa ++ b = cc in
    let p = front_parts xa b ys t in
    ((λ i. h i ∷ p.0 i), p.1)

pub cells_parts : (all : List Cell) (from : ℕ) (a b : List Cell) → CellsAt all from (a ++ b) → CellsAt all from a × CellsAt all (from + length a) b
cells_parts all from a b h =
    let p = front_parts a b (drop from all) h in
    (p.0, ap (take (length b)) (sym (drop-drop (length a) from all)) ∙ p.1)

-- rows of a list whose items come back come back
pub rows_back : {A B : Type 0} (row : ℕ → A → B) (cells : A → List Cell) (back : B → A) (Good : A → Type 0) (all : List Cell)
    → ((x : A) (from : ℕ) → Good x → CellsAt all from (cells x) → back (row from x) ≡ x)
    → (from : ℕ) (xs : List A) → AllByRecursion Good xs → CellsAt all from (flat_map cells xs) → map back (rows_from row cells from xs) ≡ xs
unfolding rows_from
rows_back row cells back Good all one from [] g h = refl
rows_back row cells back Good all one from (x ∷ xs) g h =
    let p = cells_parts all from (cells x) (flat_map cells xs) h in
    λ i. one x from g.0 p.0 i ∷ rows_back row cells back Good all one (from + length (cells x)) xs g.1 p.1 i

all_true : {A : Type 0} (xs : List A) → AllByRecursion (λ x. Unit {0}) xs
all_true [] = tt
all_true (x ∷ xs) = (tt, all_true xs)

span_back : (all : List Cell) (e : Expression) (from : ℕ) → Unit {0} → CellsAt all from (whole e) → expression_in all (span_row from e) ≡ e
span_back all e from u c = c

form_back : (all : List Cell) (f : FormSyntax) (from : ℕ) → FormFits f → CellsAt all from (form_cells f) → form_in all (form_row from f) ≡ f
form_back all (plain f e) from g c = ap (plain f) c
form_back all (delay f v e) from g c = ap (delay f v) c
form_back all (call n rs es) from g c = ap (call n rs) (rows_back span_row whole (expression_in all) (λ _. Unit {0}) all (span_back all) from es (all_true es) c)

equation_back : (all : List Cell) (e : EquationSyntax) (from : ℕ) → EquationFits e → CellsAt all from (equation_cells e) → equation_in all (equation_row from e) ≡ e
equation_back all e from g c = λ i. record { clock = e.clock; form = form_back all e.form from g.1 c i }

node_back : (all : List Cell) (n : NodeSyntax) (from : ℕ) → NodeFits n → CellsAt all from (node_cells n) → node_in all (node_row from n) ≡ n
node_back all n from g c = λ i. record {
  inputs = n.inputs;
  outputs = n.outputs;
  locals = n.locals;
  flows = take_all (n.inputs + n.outputs + n.locals) n.flows (omega (arith, g.counted)) i;
  clocks = n.clocks;
  equations = rows_back equation_row equation_cells (equation_in all) EquationFits all (equation_back all) from n.equations g.equations c i;
}

-- the cells that rows hold are those of the block
held_cells : (t : Table) (b : BlockSyntax) → Holds t b → CellsAt t.store.cells.now 0 (block_cells b)
held_cells t b h =
    let cs = block_cells b in
    let all = t.store.cells.now in
    let long : length cs ≤ length all = omega (arith, h.used, h.room) in
    let short : length (take (length cs) all) ≡ length cs = length-take-le (length cs) all long in
    ext_get_or blank_cell (take (length cs) all) cs short (λ i l. get_or-take (length cs) all i blank_cell (omega (arith, short)) ∙ h.cells i)

pub holds_block : (t : Table) (b : BlockSyntax) → AllByRecursion NodeFits b → Holds t b → block_in t ≡ b
unfolding block_in
holds_block t b g h =
    ap (map (node_in t.store.cells.now)) h.nodes
    ∙ rows_back node_row node_cells (node_in t.store.cells.now) NodeFits t.store.cells.now (node_back t.store.cells.now) 0 b g (held_cells t b h)
