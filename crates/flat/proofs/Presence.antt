-- In a typed program a flow is present just where its clock is.
use Rattle.std.proofs.Common.{◌≡◌, ℕ, zero, suc, ◌<◌, ◌≤◌, Bool, true, false, cond, ◌&&◌, T, List, [], ◌∷◌, ◌++◌, length, get_or, ℤ, pos, Some, None, Option, sym, refl, ap, ◌∙◌, subst, arith}
use Rattle.std.specs.List.{AllByRecursion}
use Rattle.syntax.specs.declared.cell.UnaryOp.{UnaryOp}
use Rattle.syntax.specs.declared.cell.UnaryOp.TheVariants.{Not, Minus}
use Rattle.syntax.specs.declared.header.Kind.{Kind}
use Rattle.syntax.specs.declared.header.Kind.TheVariants as kind
use Rattle.syntax.specs.declared.header.Constant.{Constant}
use Rattle.syntax.specs.declared.header.Constant.TheVariants as constant
use Rattle.numbers.specs.Reckonings.{Reckonings}
use Rattle.syntax.specs.Constants.{constant_kind}
use Rattle.rules.specs.Trees.{Exp, Control, flow, truth, number, unary, binary, when, simple, merge, choose}
use Rattle.flat.specs.declared.row.Clock.{Clock}
use Rattle.flat.specs.declared.row.Clock.TheVariants.{On}
use Rattle.flat.specs.declared.value.Value.{Value}
use Rattle.flat.specs.declared.value.Value.TheVariants.{Truth, Number}
use Rattle.flat.specs.Programs.{Definition, input, plain, delay, Program, size, row, exp_flows, control_flows, clock_flow, needs_of, needs, sources, Ordered}
use Rattle.flat.specs.Values.{Answers, read_as, constant_value, says, gate, unary_value, combined, binary_value, picked, exp_value, control_value, on}
use Rattle.flat.specs.Beats.{Held, due, renewed, AtDelay, Beat, Run, none, beat}
use Rattle.flat.specs.Typing.{unary_takes, binary_takes, binary_gives, ExpTyped, ControlTyped, DefinitionTyped, Typed, OfKind, Gives, Timely, TimelyAt, HeldKinds, PresentFlows, Presence, OrderedPresentFlows}
use Rattle.flat.proofs.Alls.{all_at, all_of, all_left, all_right}
use Rattle.flat.proofs.Agreement.{before, needed, delay_part}

module _ {N : Type 0} (r : Reckonings N) where
  timely_on : (t : Kind) (b : Bool) (v : Option (Value N)) → T b → Timely t b v → Gives t v
  timely_on t true v h k = k
  timely_on t false v h k = absurd h

  no_side : (s : Bool) (v : Option (Value N)) → v ≡ None → T (says s v) → ⊥
  no_side s v e h = subst (λ w. T (says s w)) e h

  -- what has a side is present
  side_on : (t : Kind) (b s : Bool) (v : Option (Value N)) → Timely t b v → T (says s v) → T b
  side_on t true s v k h = tt
  side_on t false s v k h = absurd (no_side s v k h)

  gate_gives : (t : Kind) (b : Bool) (v : Option (Value N)) → T b → Gives t v → Gives t (gate b v)
  gate_gives t true v h k = k
  gate_gives t false v h k = absurd h

  gate_timely : (t : Kind) (b : Bool) (v : Option (Value N)) → (T b → Gives t v) → Timely t b (gate b v)
  gate_timely t true v f = f tt
  gate_timely t false v f = refl

  unary_fits : (o : UnaryOp) (v : Option (Value N)) → Gives (unary_takes o) v → Gives (unary_takes o) (unary_value r o v)
  unary_fits o None h = h
  unary_fits Not (Some (Truth b)) h = tt
  unary_fits Not (Some (Number n)) h = h
  unary_fits Minus (Some (Truth b)) h = h
  unary_fits Minus (Some (Number n)) h = tt

  truths : (o : ℕ) (t : Kind) → ((a b : Bool) → Gives t (combined r o (Truth a) (Truth b))) → (v w : Option (Value N)) → Gives kind.Truth v → Gives kind.Truth w → Gives t (binary_value r o v w)
  truths o t f None w h k = absurd h
  truths o t f (Some (Truth a)) None h k = absurd k
  truths o t f (Some (Truth a)) (Some (Truth b)) h k = f a b
  truths o t f (Some (Truth a)) (Some (Number b)) h k = absurd k
  truths o t f (Some (Number a)) w h k = absurd h

  numbers : (o : ℕ) (t : Kind) → ((a b : N) → Gives t (combined r o (Number a) (Number b))) → (v w : Option (Value N)) → Gives kind.Number v → Gives kind.Number w → Gives t (binary_value r o v w)
  numbers o t f None w h k = absurd h
  numbers o t f (Some (Number a)) None h k = absurd k
  numbers o t f (Some (Number a)) (Some (Number b)) h k = f a b
  numbers o t f (Some (Number a)) (Some (Truth b)) h k = absurd k
  numbers o t f (Some (Truth a)) w h k = absurd h

  binary_fits : (o : ℕ) → o ≤ 8 → (v w : Option (Value N)) → Gives (binary_takes o) v → Gives (binary_takes o) w → Gives (binary_gives o) (binary_value r o v w)
  binary_fits zero l = truths 0 kind.Truth (λ a b. tt)
  binary_fits (suc zero) l = truths 1 kind.Truth (λ a b. tt)
  binary_fits (suc (suc zero)) l = truths 2 kind.Truth (λ a b. tt)
  binary_fits (suc (suc (suc zero))) l = numbers 3 kind.Number (λ a b. tt)
  binary_fits (suc (suc (suc (suc zero)))) l = numbers 4 kind.Number (λ a b. tt)
  binary_fits (suc (suc (suc (suc (suc zero))))) l = numbers 5 kind.Number (λ a b. tt)
  binary_fits (suc (suc (suc (suc (suc (suc zero)))))) l = numbers 6 kind.Number (λ a b. tt)
  binary_fits (suc (suc (suc (suc (suc (suc (suc zero))))))) l = numbers 7 kind.Truth (λ a b. tt)
  binary_fits (suc (suc (suc (suc (suc (suc (suc (suc zero)))))))) l = numbers 8 kind.Truth (λ a b. tt)
  binary_fits (suc (suc (suc (suc (suc (suc (suc (suc (suc o))))))))) l = absurd (omega arith)

  picked_fits : (t : Kind) (o v w : Option (Value N)) → Gives kind.Truth o → (T (says true o) → Gives t v) → (T (says false o) → Gives t w) → Gives t (picked o v w)
  picked_fits t None v w h f g = absurd h
  picked_fits t (Some (Truth true)) v w h f g = f tt
  picked_fits t (Some (Truth false)) v w h f g = g tt
  picked_fits t (Some (Number n)) v w h f g = absurd h

  read_fits : (t : Kind) (z : ℤ) → OfKind t (read_as r t z)
  read_fits kind.Truth z = tt
  read_fits kind.Number z = tt

  constant_fits : (v : Constant) → OfKind (constant_kind v) (constant_value r v)
  constant_fits (constant.Truth b) = tt
  constant_fits (constant.Number z) = tt

  renewed_fits : (t : Kind) (b : Bool) (v : Option (Value N)) (h : Value N) → (T b → Gives t v) → OfKind t h → OfKind t (cond b (renewed v h) h)
  renewed_fits t true None h f k = absurd (f tt)
  renewed_fits t true (Some v) h f k = f tt
  renewed_fits t false v h f k = k

  renewed_is : (t : Kind) (b : Bool) (v : Option (Value N)) (h : Value N) → T b → Gives t v → v ≡ Some (cond b (renewed v h) h)
  renewed_is t true None h l k = absurd k
  renewed_is t true (Some v) h l k = refl
  renewed_is t false v h l k = absurd l

  module _ (p : Program) (a : Answers N) where
    abbrev At : ℕ → Type 0
    At x = TimelyAt p a x

    exp_fits : (e : Exp) (t : Kind) (k : Clock) → AllByRecursion At (exp_flows e) → ExpTyped p e t k → T (on a k) → Gives t (exp_value r a e)
    exp_fits (flow x) t k h y l =
        subst (λ t. Gives t (a x)) y.0 (timely_on (row p x).kind (on a (row p x).clock) (a x) (subst (λ k. T (on a k)) (sym y.1) l) h.0)
    exp_fits (truth b) t k h y l = subst (λ t. OfKind {N = N} t (Truth b)) (sym y) tt
    exp_fits (number z) t k h y l = subst (λ t. OfKind {N = N} t (Number (r.take z))) (sym y) tt
    exp_fits (unary o e) t k h y l =
        subst (λ t. Gives t (unary_value r o (exp_value r a e))) (sym y.0)
        (unary_fits o (exp_value r a e) (subst (λ t. Gives t (exp_value r a e)) y.0 (exp_fits e t k h y.1 l)))
    exp_fits (binary o e f) t k h y l =
        subst (λ t. Gives t (binary_value r o (exp_value r a e) (exp_value r a f))) (sym y.1)
        (binary_fits o y.0 (exp_value r a e) (exp_value r a f)
        (exp_fits e (binary_takes o) k (all_left At (exp_flows e) (exp_flows f) h) y.2 l)
        (exp_fits f (binary_takes o) k (all_right At (exp_flows e) (exp_flows f) h) y.3 l))
    exp_fits (when e x s) t k h y l =
        let side : T (says s (a x)) = subst (λ k. T (on a k)) y.0 l in
        let here_on = side_on (row p x).kind (on a (row p x).clock) s (a x) (all_right At (exp_flows e) (x ∷ []) h).0 side in
        gate_gives t (says s (a x)) (exp_value r a e) side (exp_fits e t (row p x).clock (all_left At (exp_flows e) (x ∷ []) h) y.2 here_on)

    control_fits : (c : Control) (t : Kind) (k : Clock) → AllByRecursion At (control_flows c) → ControlTyped p c t k → T (on a k) → Gives t (control_value r a c)
    control_fits (simple e) t k h y l = exp_fits e t k h y l
    control_fits (merge x c d) t k h y l =
        let rest = all_right At (control_flows c) (control_flows d ++ (x ∷ [])) h in
        let at_x = (all_right At (control_flows d) (x ∷ []) rest).0 in
        let given : Gives (row p x).kind (a x) = timely_on (row p x).kind (on a (row p x).clock) (a x) (subst (λ k. T (on a k)) y.0 l) at_x in
        picked_fits t (a x) (control_value r a c) (control_value r a d) (subst (λ t. Gives t (a x)) y.1 given)
        (λ s. control_fits c t (On x true) (all_left At (control_flows c) (control_flows d ++ (x ∷ [])) h) y.2 s)
        (λ s. control_fits d t (On x false) (all_left At (control_flows d) (x ∷ []) rest) y.3 s)
    control_fits (choose e c d) t k h y l =
        let rest = all_right At (exp_flows e) (control_flows c ++ control_flows d) h in
        picked_fits t (exp_value r a e) (control_value r a c) (control_value r a d)
        (exp_fits e kind.Truth k (all_left At (exp_flows e) (control_flows c ++ control_flows d) h) y.0 l)
        (λ s. control_fits c t k (all_left At (control_flows c) (control_flows d) rest) y.1 l)
        (λ s. control_fits d t k (all_right At (control_flows c) (control_flows d) rest) y.2 l)

    due_fits : (held : Held N) (readings : List ℤ) (x : ℕ) (t : Kind) (k : Clock) (d : Definition) → AllByRecursion At (needs_of k d) → DefinitionTyped p t k d
        → AtDelay (λ v e. OfKind t (held x)) d → T (on a k) → Gives t (due r held readings a x t d)
    due_fits held readings x t k input h y kept l = read_fits t (get_or readings x (pos 0))
    due_fits held readings x t k (plain c) h y kept l = control_fits c t k (all_right At (clock_flow k) (control_flows c) h) y l
    due_fits held readings x t k (delay v e) h y kept l = kept

    next_fits : (held next : Held N) (x : ℕ) (t : Kind) (k : Clock) (d : Definition) → AtDelay (λ v e. AllByRecursion At (exp_flows e)) d → DefinitionTyped p t k d
        → AtDelay (λ v e. OfKind t (held x)) d → AtDelay (λ v e. next x ≡ cond (on a k) (renewed (exp_value r a e) (held x)) (held x)) d
        → AtDelay (λ v e. OfKind t (next x)) d
    next_fits held next x t k input h y kept q = tt
    next_fits held next x t k (plain c) h y kept q = tt
    next_fits held next x t k (delay v e) h y kept q =
        subst (λ w. OfKind t w) (sym q) (renewed_fits t (on a k) (exp_value r a e) (held x) (λ l. exp_fits e t k h y.1 l) kept)

    next_is : (held next : Held N) (x : ℕ) (t : Kind) (k : Clock) (d : Definition) → AtDelay (λ v e. AllByRecursion At (exp_flows e)) d → DefinitionTyped p t k d → T (on a k)
        → AtDelay (λ v e. next x ≡ cond (on a k) (renewed (exp_value r a e) (held x)) (held x)) d
        → AtDelay (λ v e. exp_value r a e ≡ Some (next x)) d
    next_is held next x t k input h y l q = tt
    next_is held next x t k (plain c) h y l q = tt
    next_is held next x t k (delay v e) h y l q =
        renewed_is t (on a k) (exp_value r a e) (held x) l (exp_fits e t k h y.1 l) ∙ ap Some (sym q)

  gated : (b s : Bool) (v : Option (Value N)) → says s (gate b v) ≡ (b && says s (gate b v))
  gated true s v = refl
  gated false s v = refl

  module _ (p : Program) (order : List ℕ) (o : Ordered p order) (typed : Typed p) where
    module _ (held next : Held N) (readings : List ℤ) (a : Answers N) (kinds : HeldKinds p held) (B : Beat r p held readings a next) where
      by_turn : (bound n x : ℕ) → n < bound → n < length order → get_or order n 0 ≡ x → x < size p → TimelyAt p a x
      by_turn zero n x below placed is_x in_p = absurd (omega arith)
      by_turn (suc bound) n x below placed is_x in_p =
          let before_it = all_of (TimelyAt p a) (needs p x) (λ d i.
          let f = all_at (λ d. (j : ℕ) × (j < n) × (get_or order j 0 ≡ d)) i (before o n x placed is_x) in
          let e : f.0 < n = f.1 in
          by_turn bound f.0 d (omega arith) (omega arith) f.2 (all_at (λ d. d < size p) i (needed (λ d. d < size p) p x in_p (o.named x in_p)))) in
          subst (λ v. Timely (row p x).kind (on a (row p x).clock) v) (sym (B.answered x in_p))
          (gate_timely (row p x).kind (on a (row p x).clock) (due r held readings a x (row p x).kind (row p x).definition)
          (due_fits p a held readings x (row p x).kind (row p x).clock (row p x).definition before_it (typed x in_p).1 (kinds x in_p)))

      timely : (x : ℕ) → x < size p → TimelyAt p a x
      timely x in_p = let s = o.stands x in_p in by_turn (suc s.0) s.0 x (omega arith) s.1 s.2 in_p

      named_fit : (x : ℕ) → x < size p → AtDelay (λ v e. AllByRecursion (TimelyAt p a) (exp_flows e)) (row p x).definition
      named_fit x in_p =
          delay_part (TimelyAt p a) p (row p x).clock (row p x).definition
          (all_of (TimelyAt p a) (sources p x) (λ d i. timely d (all_at (λ d. d < size p) i (o.named x in_p))))

      pub present : PresentFlows r p held readings a next
      present = record {
        timely = timely;
        clocks = λ x s in_p.
            let due_x = due r held readings a x (row p x).kind (row p x).definition in
            subst (λ v. says s v ≡ (on a (row p x).clock && says s v)) (sym (B.answered x in_p)) (gated (on a (row p x).clock) s due_x);
        renews = λ x in_p l. next_is p a held next x (row p x).kind (row p x).clock (row p x).definition (named_fit x in_p) (typed x in_p).1 l (B.renews x in_p);
        kinds = λ x in_p. next_fits p a held next x (row p x).kind (row p x).clock (row p x).definition (named_fit x in_p) (typed x in_p).1 (kinds x in_p) (B.renews x in_p);
      }

    first_fits : (held : Held N) (x : ℕ) (t : Kind) (k : Clock) (d : Definition) → DefinitionTyped p t k d → AtDelay (λ v e. held x ≡ constant_value r v) d → AtDelay (λ v e. OfKind t (held x)) d
    first_fits held x t k input y q = tt
    first_fits held x t k (plain c) y q = tt
    first_fits held x t k (delay v e) y q = subst (λ w. OfKind t w) (sym q) (subst (λ t. OfKind t (constant_value r v)) y.0 (constant_fits v))

    runs_timely : {h h' : Held N} {is : List (List ℤ)} {as' : List (Answers N)} → HeldKinds p h → Run r p h is as' h' → AllByRecursion (λ a. (x : ℕ) → x < size p → TimelyAt p a x) as'
    runs_timely kinds none = tt
    runs_timely kinds (beat {held = h} {next = k} {readings = i} {answers = a} B more) =
        let now_it = present h k i a kinds B in
        (now_it.timely, runs_timely now_it.kinds more)

    pub presence : Presence r p
    presence = record {
      beats = λ held readings a next kinds B. present held next readings a kinds B;
      histories = λ readings as' last H.
          runs_timely (λ x in_p. first_fits H.first x (row p x).kind (row p x).clock (row p x).definition (typed x in_p).1 (H.starts x in_p)) H.run;
    }

pub present_flows : {N : Type 0} (r : Reckonings N) → OrderedPresentFlows r
present_flows r p order o typed = presence r p order o typed
