-- Equations, nodes and blocks are read as they are written.
use Rattle.std.proofs.Common.{◌≡◌, ℕ, ◌+◌, ◌-◌, ◌<◌, ◌≤◌, ◌&&◌, eqb, ltb, leb, List, ◌++◌, length, Ok, refl, arith}
use Rattle.std.proofs.lemmas.Bool.{eqb-true, eqb-false, ltb-true, lt-ltb, leb-true, le-leb, and_parts}
use Rattle.syntax.specs.Syntax.{Expression, FormSyntax, EquationSyntax, NodeSyntax, BlockSyntax, plain, delay, call}
use Rattle.syntax.specs.Parse.{field, many}
use Rattle.syntax.specs.Decoder.{read_expression, read_constant, read_flow, read_clock, read_plain, read_delay, read_results, read_arguments, read_call, read_form, read_form_number, read_equation, read_count, read_equations, read_node, read_mark, read_fields}
use Rattle.std.specs.List.{flat_map}
use Rattle.syntax.specs.Encoder.{Field, expression_fields, constant_fields, flow_fields, clock_fields, result_fields, form_number, form_fields, equation_fields, equations_fields, node_fields, block_fields}
use Rattle.std.specs.List.{AllByRecursion}
use Rattle.syntax.specs.Laws.{Counted, ExpressionFits, FormFits, EquationFits, NodeFits, Encodable}
use Rattle.syntax.proofs.Standing.{AreBits, Stands, Made, made_ok, made_err, made_after, made_cond, stands_append, stands_parts, FieldFits}
use Rattle.syntax.proofs.Undoing.{Undoes, some_by, some_fields, all_append, field_back, undoes_field, undoes_some, many_back, many_again, many_fits}
use Rattle.syntax.proofs.CellTrips.{undoes_expression, undoes_flow, undoes_clock, undoes_constant}

pub undoes_result : Undoes (field 5) (λ f. f < 32) result_fields
undoes_result = undoes_field 5

-- the results and the arguments of a call
abbrev results_fields : List ℕ → List Field
results_fields = some_fields 3 result_fields

abbrev arguments_fields : List Expression → List Field
arguments_fields = some_fields 3 expression_fields

pub undoes_results : Undoes read_results (λ rs. Counted 1 8 rs × AllByRecursion (λ f. f < 32) rs) results_fields
unfolding read_results
undoes_results = undoes_some undoes_result 3

pub undoes_arguments : Undoes read_arguments (λ es. Counted 1 8 es × AllByRecursion ExpressionFits es) arguments_fields
unfolding read_arguments
undoes_arguments = undoes_some undoes_expression 3

-- what a form of this number reads
abbrev FormThere : List ℕ → ℕ → ℕ → FormSyntax → ℕ → Type 0
FormThere bits at n x q = FormFits x × (form_number x ≡ n) × Stands bits at (form_fields x) q

plain_back : (bits : List ℕ) (at : ℕ) → AreBits bits → Made (read_plain bits at) (FormThere bits at 0)
unfolding read_plain
plain_back bits at h =
    made_after (field 5 bits at) _ (field_back 5 bits at h) λ f m a.
    made_after (read_expression bits m) _ (undoes_expression.back bits m h) λ e q b.
    made_ok ((a.0, b.0), refl, (m, a.1, b.1))

delay_back : (bits : List ℕ) (at : ℕ) → AreBits bits → Made (read_delay bits at) (FormThere bits at 1)
unfolding read_delay
delay_back bits at h =
    made_after (field 5 bits at) _ (field_back 5 bits at h) λ f m a.
    made_after (read_constant bits m) _ (undoes_constant.back bits m h) λ v k b.
    made_after (read_expression bits k) _ (undoes_expression.back bits k h) λ e q c.
    made_ok ((a.0, b.0, c.0), refl, (m, a.1, stands_append bits m (constant_fields v) (expression_fields e) k q b.1 c.1))

call_back : (bits : List ℕ) (at : ℕ) → AreBits bits → Made (read_call bits at) (FormThere bits at 2)
unfolding read_call
call_back bits at h =
    made_after (field 3 bits at) _ (field_back 3 bits at h) λ n m a.
    made_after (read_results bits m) _ (undoes_results.back bits m h) λ rs k b.
    made_after (read_arguments bits k) _ (undoes_arguments.back bits k h) λ es q c.
    made_ok ((a.0, b.0.0, b.0.1, c.0.0, c.0.1), refl, (m, a.1, stands_append bits m (results_fields rs) (arguments_fields es) k q b.1 c.1))

form_back : (bits : List ℕ) (at n : ℕ) → n < 3 → AreBits bits → Made (read_form n bits at) (FormThere bits at n)
form_back bits at n l h =
    made_cond (eqb n 0) _ _ bits at (λ t. rw (eqb-true n 0 t) (plain_back bits at h)) λ f.
    made_cond (eqb n 1) _ _ bits at (λ t. rw (eqb-true n 1 t) (delay_back bits at h)) λ g.
    let two : n ≡ 2 = omega (arith, eqb-false n 0 f, eqb-false n 1 g) in
    rw two (call_back bits at h)

form_again : (bits : List ℕ) (at : ℕ) (x : FormSyntax) (q : ℕ) → FormFits x → Stands bits at (form_fields x) q → read_form (form_number x) bits at ≡ Ok (x, q)
unfolding read_plain read_delay read_call
form_again bits at (plain f e) q g s =
    rw (s.1, undoes_expression.again bits s.0 e q g.1 s.2)
form_again bits at (delay f v e) q g s =
    let r = stands_parts bits s.0 (constant_fields v) (expression_fields e) q s.2 in
    rw (s.1, undoes_constant.again bits s.0 v r.0 g.1 r.1, undoes_expression.again bits r.0 e q g.2 r.2)
form_again bits at (call n rs es) q g s =
    let r = stands_parts bits s.0 (results_fields rs) (arguments_fields es) q s.2 in
    rw (s.1, undoes_results.again bits s.0 rs r.0 (g.1, g.2) r.1, undoes_arguments.again bits r.0 es q (g.3, g.4) r.2)

form_room : (x : FormSyntax) → FormFits x → AllByRecursion FieldFits (form_fields x)
form_room (plain f e) g = (g.0, undoes_expression.fits e g.1)
form_room (delay f v e) g = (g.0, all_append FieldFits (constant_fields v) (expression_fields e) (undoes_constant.fits v g.1) (undoes_expression.fits e g.2))
form_room (call n rs es) g = (g.0, all_append FieldFits (results_fields rs) (arguments_fields es) (undoes_results.fits rs (g.1, g.2)) (undoes_arguments.fits es (g.3, g.4)))

form_number-below : (x : FormSyntax) → form_number x < 3
form_number-below (plain f e) = omega arith
form_number-below (delay f v e) = omega arith
form_number-below (call n rs es) = omega arith

form_number_back : (bits : List ℕ) (at : ℕ) → AreBits bits → Made (read_form_number bits at) (λ n m. (n < 3) × (field 2 bits at ≡ Ok (n, m)))
unfolding read_form_number
form_number_back bits at h =
    made_after (field 2 bits at) _ (field_back 2 bits at h) λ n m a.
    made_cond (ltb n 3) _ _ bits m (λ t. made_ok (ltb-true n 3 t, a.1)) (λ f. made_err)

form_number_again : (bits : List ℕ) (at n m : ℕ) → n < 3 → field 2 bits at ≡ Ok (n, m) → read_form_number bits at ≡ Ok (n, m)
unfolding read_form_number
form_number_again bits at n m l e = rw (e, lt-ltb n 3 l)

equation_back : (bits : List ℕ) (at : ℕ) → AreBits bits → Made (read_equation bits at) (λ e q. EquationFits e × Stands bits at (equation_fields e) q)
unfolding read_equation
equation_back bits at h =
    made_after (read_form_number bits at) _ (form_number_back bits at h) λ n m a.
    made_after (field 3 bits m) _ (field_back 3 bits m h) λ c k b.
    made_after (read_form n bits k) _ (form_back bits k n a.0 h) λ x q d.
    made_ok ((b.0, d.0), (m, rw d.1 a.1, (k, b.1, d.2)))

equation_again : (bits : List ℕ) (at : ℕ) (e : EquationSyntax) (q : ℕ) → EquationFits e → Stands bits at (equation_fields e) q → read_equation bits at ≡ Ok (e, q)
unfolding read_equation
equation_again bits at e q g s =
    let k = s.2 in
    rw (form_number_again bits at (form_number e.form) s.0 (form_number-below e.form) s.1, k.1, form_again bits k.0 e.form q g.1 k.2)

pub undoes_equation : Undoes read_equation EquationFits equation_fields
undoes_equation = record {
  back = equation_back;
  again = equation_again;
  fits = λ e g. (omega (arith, form_number-below e.form), (g.0, form_room e.form g.1));
}

count_back : (bits : List ℕ) (at : ℕ) → AreBits bits → Made (read_count bits at) (λ n m. (1 ≤ n) × (n ≤ 23) × (field 5 bits at ≡ Ok (n, m)))
unfolding read_count
count_back bits at h =
    made_after (field 5 bits at) _ (field_back 5 bits at h) λ n m a.
    made_cond (leb 1 n && leb n 23) _ _ bits m
    (λ t. let b = and_parts (leb 1 n) (leb n 23) t in made_ok (leb-true 1 n b.0, leb-true n 23 b.1, a.1))
    (λ f. made_err)

count_again : (bits : List ℕ) (at n m : ℕ) → 1 ≤ n → n ≤ 23 → field 5 bits at ≡ Ok (n, m) → read_count bits at ≡ Ok (n, m)
unfolding read_count
count_again bits at n m k l e = rw (e, le-leb 1 n k, le-leb n 23 l)

equations_back : (bits : List ℕ) (at : ℕ) → AreBits bits → Made (read_equations bits at) (λ es q. Counted 1 23 es × AllByRecursion EquationFits es × Stands bits at (equations_fields es) q)
unfolding read_equations
equations_back bits at h =
    made_after (read_count bits at) _ (count_back bits at h) λ n m k.
    record {
      made = λ es q r.
          let j = (many_back undoes_equation n bits m h).made es q r in
          ((omega (arith, k.0, j.0), omega (arith, k.1, j.0)), j.1, (m, rw j.0 k.2, j.2));
    }

equations_again : (bits : List ℕ) (at : ℕ) (es : List EquationSyntax) (q : ℕ) → Counted 1 23 es → AllByRecursion EquationFits es → Stands bits at (equations_fields es) q → read_equations bits at ≡ Ok (es, q)
unfolding read_equations
equations_again bits at es q k g s =
    rw (count_again bits at (length es) s.0 k.0 k.1 s.1) (many_again undoes_equation bits s.0 es q g s.2)

node_back : (bits : List ℕ) (at : ℕ) → AreBits bits → Made (read_node bits at) (λ n q. NodeFits n × Stands bits at (node_fields n) q)
unfolding read_node
node_back bits at h =
    made_after (field 3 bits at) _ (field_back 3 bits at h) λ i m₁ a.
    made_after (field 3 bits m₁) _ (field_back 3 bits m₁ h) λ o m₂ b.
    made_after (field 4 bits m₂) _ (field_back 4 bits m₂ h) λ l m₃ c.
    made_after (field 3 bits m₃) _ (field_back 3 bits m₃ h) λ d m₄ e.
    made_after (many read_flow (i + 1 + (o + 1) + l) bits m₄) _ (many_back undoes_flow (i + 1 + (o + 1) + l) bits m₄ h) λ fs m₅ f.
    made_after (many read_clock d bits m₅) _ (many_back undoes_clock d bits m₅ h) λ ds m₆ g.
    made_after (read_equations bits m₆) _ (equations_back bits m₆ h) λ es q j.
    let inputs : i + 1 - 1 ≡ i = omega arith in
    let outputs : o + 1 - 1 ≡ o = omega arith in
    let clocks = stands_append bits m₅ (flat_map clock_fields ds) _ m₆ q g.2 j.2 in
    let flows = stands_append bits m₄ (flat_map flow_fields fs) _ m₅ q f.2 clocks in
    made_ok (
      record {
        inputs = (omega arith, omega (arith, a.0));
        outputs = (omega arith, omega (arith, b.0));
        locals = omega (arith, c.0);
        counted = f.0;
        flows = f.1;
        few_clocks = omega (arith, e.0, g.0);
        clocks = g.1;
        few_equations = j.0;
        equations = j.1;
      },
      (m₁, rw inputs a.1, (m₂, rw outputs b.1, (m₃, c.1, (m₄, rw g.0 e.1, flows)))),
    )

node_again : (bits : List ℕ) (at : ℕ) (n : NodeSyntax) (q : ℕ) → NodeFits n → Stands bits at (node_fields n) q → read_node bits at ≡ Ok (n, q)
unfolding read_node
node_again bits at n q g s =
    let o = s.2 in
    let l = o.2 in
    let d = l.2 in
    let rest = equations_fields n.equations in
    let f = stands_parts bits d.0 (flat_map flow_fields n.flows) (flat_map clock_fields n.clocks ++ rest) q d.2 in
    let c = stands_parts bits f.0 (flat_map clock_fields n.clocks) rest q f.2 in
    let inputs : n.inputs - 1 + 1 ≡ n.inputs = omega (arith, g.inputs) in
    let outputs : n.outputs - 1 + 1 ≡ n.outputs = omega (arith, g.outputs) in
    rw (
      s.1,
      o.1,
      l.1,
      d.1,
      inputs,
      outputs,
      ← g.counted,
      many_again undoes_flow bits d.0 n.flows f.0 g.flows f.1,
      many_again undoes_clock bits f.0 n.clocks c.0 g.clocks c.1,
      equations_again bits c.0 n.equations q g.few_equations g.equations c.2,
    )

node_room : (n : NodeSyntax) → NodeFits n → AllByRecursion FieldFits (node_fields n)
node_room n g =
    let equations : AllByRecursion FieldFits (equations_fields n.equations) = (omega (arith, g.few_equations), many_fits undoes_equation n.equations g.equations) in
    let clocks = all_append FieldFits (flat_map clock_fields n.clocks) _ (many_fits undoes_clock n.clocks g.clocks) equations in
    let flows = all_append FieldFits (flat_map flow_fields n.flows) _ (many_fits undoes_flow n.flows g.flows) clocks in
    (omega (arith, g.inputs), (omega (arith, g.outputs), (omega (arith, g.locals), (omega (arith, g.few_clocks), flows))))

pub undoes_node : Undoes read_node NodeFits node_fields
undoes_node = record { back = node_back; again = node_again; fits = node_room }

mark_back : (bits : List ℕ) (at : ℕ) → AreBits bits → Made (read_mark bits at) (λ n m. field 8 bits at ≡ Ok (183, m))
unfolding read_mark
mark_back bits at h =
    made_after (field 8 bits at) _ (field_back 8 bits at h) λ n m a.
    made_cond (eqb n 183) _ _ bits m (λ t. made_ok (rw (eqb-true n 183 t) at a.1)) (λ f. made_err)

mark_again : (bits : List ℕ) (at m : ℕ) → field 8 bits at ≡ Ok (183, m) → read_mark bits at ≡ Ok (183, m)
unfolding read_mark
mark_again bits at m e = rw e

undoes_nodes : Undoes (some_by 3 read_node) Encodable (some_fields 3 node_fields)
undoes_nodes = undoes_some undoes_node 3

block_back : (bits : List ℕ) (at : ℕ) → AreBits bits → Made (read_fields bits at) (λ b q. Encodable b × Stands bits at (block_fields b) q)
unfolding read_fields
block_back bits at h =
    made_after (read_mark bits at) _ (mark_back bits at h) λ x m a.
    record {
      made = λ b q r.
          let c = (undoes_nodes.back bits m h).made b q r in
          (c.0, (m, a, c.1));
    }

block_again : (bits : List ℕ) (at : ℕ) (b : BlockSyntax) (q : ℕ) → Encodable b → Stands bits at (block_fields b) q → read_fields bits at ≡ Ok (b, q)
unfolding read_fields
block_again bits at b q g s = rw (mark_again bits at s.0 s.1) (undoes_nodes.again bits s.0 b q g s.2)

pub undoes_block : Undoes read_fields Encodable block_fields
undoes_block = record { back = block_back; again = block_again; fits = λ b g. (omega arith, undoes_nodes.fits b g) }
