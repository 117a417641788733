-- Every beat has one answer, and every list of readings one history.
use Rattle.std.proofs.Common.{◌≡◌, ℕ, zero, suc, ◌<◌, false, cond, List, [], ◌∷◌, ◌++◌, length, get_or, ℤ, pos, None, refl, arith}
use Rattle.std.specs.List.{AllZip, AllByRecursion}
use Rattle.numbers.specs.Reckonings.{Reckonings}
use Rattle.flat.specs.declared.value.Value.{Value}
use Rattle.flat.specs.declared.value.Value.TheVariants.{Truth}
use Rattle.flat.specs.Programs.{Definition, input, plain, delay, Program, size, row, needs, sources, Ordered}
use Rattle.flat.specs.Values.{Answers, constant_value, gate, exp_value, on}
use Rattle.flat.specs.Beats.{Held, due, renewed, AtDelay, AtInput, Beat, Run, none, beat, HistoriesGrow, SameAnswers, OneAnswer, OrderedOneAnswer}
use Rattle.flat.proofs.Alls.{all_at, all_of, each_weaker}
use Rattle.flat.proofs.Agreement.{before, answer_same, starts_same, runs_same, beat_same, beat_keeps}

at_input : (P : Type 0) (d : Definition) → P → AtInput P d
at_input P input h = h
at_input P (plain c) h = tt
at_input P (delay v e) h = tt

at_delay : (P : Type 0) (d : Definition) → P → AtDelay (λ v e. P) d
at_delay P input h = tt
at_delay P (plain c) h = tt
at_delay P (delay v e) h = h

module _ {N : Type 0} (r : Reckonings N) (p : Program) (order : List ℕ) (o : Ordered p order) where
  -- the answers as far as so many turns give them
  module _ (held : Held N) (readings : List ℤ) where
    abbrev turns : ℕ → Answers N
    turns zero x = None
    turns (suc n) x = gate (on (turns n) (row p x).clock) (due r held readings (turns n) x (row p x).kind (row p x).definition)

    -- a flow's answer stays from its turn on
    stays : (n i x : ℕ) → i < n → i < length order → get_or order i 0 ≡ x → turns n x ≡ turns (suc n) x
    stays zero i x l placed is_x = absurd (omega arith)
    stays (suc n) i x l placed is_x =
        answer_same r (turns n) (turns (suc n)) held held readings readings x (row p x).kind (row p x).clock (row p x).definition
        (all_of (λ d. turns n d ≡ turns (suc n) d) (needs p x) (λ d m.
        let f = all_at (λ d. (j : ℕ) × (j < i) × (get_or order j 0 ≡ d)) m (before o i x placed is_x) in
        let e : f.0 < i = f.1 in
        stays n f.0 d (omega arith) (omega arith) f.2))
        (at_input _ (row p x).definition refl) (at_delay _ (row p x).definition refl)

    abbrev told : Answers N
    told = turns (length order)

    abbrev renew : ℕ → Definition → Value N
    renew x input = held x
    renew x (plain c) = held x
    renew x (delay v e) = cond (on told (row p x).clock) (renewed (exp_value r told e) (held x)) (held x)

    renew_is : (x : ℕ) (d : Definition) → AtDelay (λ v e. renew x d ≡ cond (on told (row p x).clock) (renewed (exp_value r told e) (held x)) (held x)) d
    renew_is x input = tt
    renew_is x (plain c) = tt
    renew_is x (delay v e) = refl

    abbrev after_it : Held N
    after_it x = renew x (row p x).definition

    a_beat : Beat r p held readings told after_it
    a_beat = record {
      answered = λ x in_p. let s = o.stands x in_p in stays (length order) s.0 x s.1 s.1 s.2;
      renews = λ x in_p. renew_is x (row p x).definition;
    }

  abbrev first_of : Definition → Value N
  first_of input = Truth false
  first_of (plain c) = Truth false
  first_of (delay v e) = constant_value r v

  first_is : (d : Definition) → AtDelay (λ v e. first_of d ≡ constant_value r v) d
  first_is input = tt
  first_is (plain c) = tt
  first_is (delay v e) = refl

  a_run : (held : Held N) (readings : List (List ℤ)) → (answers : List (Answers N)) × (last : Held N) × Run r p held readings answers last
  a_run held [] = ([], held, none)
  a_run held (i ∷ is) =
      let rest = a_run (after_it held i) is in
      (told held i ∷ rest.0, rest.1, beat (a_beat held i) rest.2)

  -- all flows agree, since all are closed under what bears on them
  all_closed : (x : ℕ) → x < size p → Unit {0} → AllByRecursion (λ d. Unit {0}) (sources p x)
  all_closed x h u = all_of (λ d. Unit {0}) (sources p x) (λ d i. tt)

  reads_same : (is : List (List ℤ)) → AllZip (λ i j. (x : ℕ) → x < size p → Unit {0} → AtInput (get_or i x (pos 0) ≡ get_or j x (pos 0)) (row p x).definition) is is
  reads_same [] = tt
  reads_same (i ∷ is) = ((λ x h u. at_input _ (row p x).definition refl), reads_same is)

  pub answers_once : OneAnswer r p
  answers_once = record {
    some_beat = λ held readings. (told held readings, after_it held readings, a_beat held readings);
    one_beat = λ held readings a b h k A B.
        let reads = λ (x : ℕ) (l : x < size p) (u : Unit {0}). at_input _ (row p x).definition refl in
        let keeps = λ (x : ℕ) (l : x < size p) (u : Unit {0}). at_delay _ (row p x).definition refl in (
          (λ x l. beat_same r p order o (λ x. Unit {0}) all_closed held held h k readings readings a b A B reads keeps x l tt),
          (λ x l. beat_keeps r p order o (λ x. Unit {0}) all_closed held held h k readings readings a b A B reads keeps x l tt),
        );
    some_history = λ readings.
        let first : Held N = λ x. first_of (row p x).definition in
        let run = a_run first readings in
        (run.0, run.1, record { first = first; starts = λ x h. first_is (row p x).definition; run = run.2 });
    one_history = λ readings as' bs h k A B.
        let same = runs_same r p order o (λ x. Unit {0}) all_closed A.run B.run
        (λ x l u. starts_same r (A.first x) (B.first x) (row p x).definition (A.starts x l) (B.starts x l)) (reads_same readings) in
        (each_weaker _ (SameAnswers p) (λ a b f x l. f x l tt) as' bs same.0, (λ x l. same.1 x l tt));
  }

pub one_answer : {N : Type 0} (r : Reckonings N) → OrderedOneAnswer r
one_answer r p order o = answers_once r p order o

-- one more beat
one_more : {N : Type 0} {r : Reckonings N} {p : Program} {h k l : Held N} {is : List (List ℤ)} {as' : List (Answers N)} {i : List ℤ} {a : Answers N}
    → Run r p h is as' k → Beat r p k i a l → Run r p h (is ++ (i ∷ [])) (as' ++ (a ∷ [])) l
one_more none B = beat B none
one_more (beat A more) B = beat A (one_more more B)

pub histories_grow : {N : Type 0} (r : Reckonings N) → HistoriesGrow r
histories_grow r p readings answers held H is a next B = record { first = H.first; starts = H.starts; run = one_more H.run B }
