-- The small programs.
use Rattle.std.proofs.Common.{◌≡◌, ℕ, zero, suc, ◌<◌, Bool, true, false, cond, not, T, List, [], ◌∷◌, map, length, get_or, ℤ, pos, negsuc, Some, None, Option, sym, refl, ap, ◌∙◌, subst, ap₂, arith}
use mathlib.Core.Bool.{beq}
use Rattle.std.specs.List.{AllZip, AllByRecursion}
use Rattle.std.specs.Int.{int_wrap}
use Rattle.std.specs.Ordering.{int_eq}
use Rattle.syntax.specs.declared.cell.UnaryOp.TheVariants.{Not}
use Rattle.classes.specs.Classes.{joined}
use Rattle.classes.specs.Systems.{ranked}
use Rattle.numbers.specs.Points.{points}
use Rattle.flat.specs.declared.value.Value.{Value}
use Rattle.flat.specs.declared.value.Value.TheVariants.{Truth, Number}
use Rattle.flat.specs.Programs.{Program, size, row, clock_flows, needs, sources}
use Rattle.flat.specs.Values.{Answers, says, gate, unary_value, binary_value}
use Rattle.flat.specs.Beats.{Held, renewed, AtInput, Beat, Run, none, beat}
use Rattle.flat.specs.Typing.{ClockTyped, DefinitionTyped}
use Rattle.flat.specs.Constraints.{Constraint}
use Rattle.flat.specs.Secrecy.{Seen}
use Rattle.flat.specs.Clearing.{In, here, there, Reaches, direct, onward, least}
use Rattle.flat.proofs.Alls.{each_weaker}
use Rattle.flat.specs.Examples.{negation, tally, shown, pulse, lamp, later, nested, relay, sheet, Negation, Tally, Shown, Clocks, Later, Relay, Values, WorkedExamples}

-- ---- places one by one

under_four : (P : ℕ → Type 0) → P 0 → P 1 → P 2 → P 3 → (x : ℕ) → x < 4 → P x
under_four P a b c d zero h = a
under_four P a b c d (suc zero) h = b
under_four P a b c d (suc (suc zero)) h = c
under_four P a b c d (suc (suc (suc zero))) h = d
under_four P a b c d (suc (suc (suc (suc x)))) h = absurd (omega arith)

under_one : (P : ℕ → Type 0) → P 0 → (x : ℕ) → x < 1 → P x
under_one P a zero h = a
under_one P a (suc x) h = absurd (omega arith)

under_two : (P : ℕ → Type 0) → P 0 → P 1 → (x : ℕ) → x < 2 → P x
under_two P a b zero h = a
under_two P a b (suc zero) h = b
under_two P a b (suc (suc x)) h = absurd (omega arith)

under_three : (P : ℕ → Type 0) → P 0 → P 1 → P 2 → (x : ℕ) → x < 3 → P x
under_three P a b c zero h = a
under_three P a b c (suc zero) h = b
under_three P a b c (suc (suc zero)) h = c
under_three P a b c (suc (suc (suc x))) h = absurd (omega arith)

abbrev Stands : List ℕ → ℕ → Type 0
Stands order x = (i : ℕ) × (i < length order) × (get_or order i 0 ≡ x)

abbrev After : Program → List ℕ → ℕ → Type 0
After p order i = AllByRecursion (λ d. (j : ℕ) × (j < i) × (get_or order j 0 ≡ d)) (needs p (get_or order i 0))

abbrev Named : Program → ℕ → Type 0
Named p x = AllByRecursion (λ d. d < size p) (sources p x)

abbrev TypedAt : Program → ℕ → Type 0
TypedAt p x = ClockTyped p (row p x).clock × DefinitionTyped p (row p x).kind (row p x).clock (row p x).definition

abbrev Met : Program → (ℕ → ℕ) → ℕ → Type 0
Met p class x = Constraint (ranked 255) p class x

-- ---- negation

negation_beat : {h h' : Held ℤ} {z : ℤ} {a : Answers ℤ} → Beat points negation h (z ∷ []) a h' → a 1 ≡ Some (Truth (not (not (int_eq z (pos 0)))))
negation_beat B = B.answered 1 (omega arith) ∙ ap (unary_value points Not) (B.answered 0 (omega arith))

negation_run : {h h' : Held ℤ} {as' : List (Answers ℤ)} → Run points negation h ((pos 0 ∷ []) ∷ (pos 5 ∷ []) ∷ []) as' h'
    → map (λ (a : Answers ℤ). a 1) as' ≡ Some (Truth true) ∷ Some (Truth false) ∷ []
negation_run (beat A (beat B none)) = λ i. negation_beat A i ∷ negation_beat B i ∷ []

negates : Negation
negates = record {
  ordered = record {
    all = refl;
    stands = under_two (Stands (0 ∷ 1 ∷ [])) (0, omega arith, refl) (1, omega arith, refl);
    after = under_two (After negation (0 ∷ 1 ∷ [])) tt ((0, omega arith, refl), tt);
    named = under_two (Named negation) tt (omega arith, tt);
  };
  typed = under_two (TypedAt negation) (tt, tt) (tt, (refl, (refl, refl)));
  answers = λ as' last H. negation_run H.run;
  cleared = ((λ x. 1), (under_two (λ x. 1 ≡ sheet (1 ∷ 1 ∷ []) x) refl refl), (under_two (Met negation (λ x. 1)) tt tt));
  refused = λ has marks. record {
    main = omega arith;
    within = omega arith;
    fails = λ h. h;
    lower = under_one (Met negation (least (ranked 255) negation has (sheet (1 ∷ 0 ∷ [])))) tt;
  };
}

-- ---- tally

tally_beat : {h h' : Held ℤ} {z : ℤ} {a : Answers ℤ} → Beat points tally h (z ∷ []) a h' → (v w : ℤ) → h 2 ≡ Number v → points.plus v z ≡ w
    → (a 1 ≡ Some (Number w)) × (a 2 ≡ Some (Number v)) × (h' 2 ≡ Number w)
tally_beat {h} {z = z} {a = a} B v w e q =
    let before : a 2 ≡ Some (Number v) = B.answered 2 (omega arith) ∙ ap Some e in
    let add : a 0 ≡ Some (Number z) = B.answered 0 (omega arith) in
    let total : a 1 ≡ Some (Number w) = B.answered 1 (omega arith) ∙ ap₂ (binary_value points 3) before add ∙ ap (λ n. Some (Number n)) q in
    (total, before, B.renews 2 (omega arith) ∙ ap (λ o. renewed o (h 2)) total)

tally_run : {h h' : Held ℤ} {as' : List (Answers ℤ)} → h 2 ≡ Number (pos 0) → Run points tally h ((pos 3 ∷ []) ∷ (pos 4 ∷ []) ∷ (negsuc 1 ∷ []) ∷ []) as' h'
    → (map (λ (a : Answers ℤ). a 1) as' ≡ Some (Number (pos 3)) ∷ Some (Number (pos 7)) ∷ Some (Number (pos 5)) ∷ [])
    × (map (λ (a : Answers ℤ). a 2) as' ≡ Some (Number (pos 0)) ∷ Some (Number (pos 3)) ∷ Some (Number (pos 7)) ∷ [])
    × (h' 2 ≡ Number (pos 5))
unfolding int_wrap
tally_run e (beat A (beat B (beat D none))) =
    let a = tally_beat A (pos 0) (pos 3) e refl in
    let b = tally_beat B (pos 3) (pos 7) a.2 refl in
    let d = tally_beat D (pos 7) (pos 5) b.2 refl in
    ((λ i. a.0 i ∷ b.0 i ∷ d.0 i ∷ []), (λ i. a.1 i ∷ b.1 i ∷ d.1 i ∷ []), d.2)

tally_once : {h h' : Held ℤ} {as' : List (Answers ℤ)} (z w : ℤ) → points.plus (pos 0) z ≡ w → h 2 ≡ Number (pos 0) → Run points tally h ((z ∷ []) ∷ []) as' h' → h' 2 ≡ Number w
tally_once z w q e (beat A none) = (tally_beat A (pos 0) w e q).2

not_both : (v : Value ℤ) → v ≡ Number (pos 3) → v ≡ Number (pos 4) → ⊥
not_both v e f = let z : ◌≡◌ {A = ℕ} 3 4 = cc in omega arith

-- the class of an inner flow, by which of two main flows reach it
abbrev gathered : List ℕ → Bool → Bool → ℕ
gathered cs b c = joined (ranked 255) (map (sheet cs) (cond b (0 ∷ cond c (1 ∷ []) []) (cond c (1 ∷ []) [])))

tally_fails : (b c : Bool) → T ((ranked 255).below ((ranked 255).join 0 ((ranked 255).join (gathered (2 ∷ 1 ∷ []) b c) ((ranked 255).join 2 0))) 1) → ⊥
tally_fails true true h = h
tally_fails true false h = h
tally_fails false true h = h
tally_fails false false h = h

only : {y n : ℕ} → In y (n ∷ []) → y ≡ n
only here = refl
only (there i) = elim i [ ]

add_stops : Reaches tally 0 2 → ⊥
add_stops (direct h l i) = let e = only i in omega arith
add_stops (onward w l h i) = let e = only i in omega arith

inner_is : (b c : Bool) → (T b → ⊥) → T c → gathered (2 ∷ 1 ∷ []) b c ≡ 1
inner_is true c f h = absurd (f tt)
inner_is false true f h = refl
inner_is false false f h = absurd h

tallies : Tally
unfolding int_wrap
tallies = record {
  ordered = record {
    all = refl;
    stands = under_three (Stands (0 ∷ 2 ∷ 1 ∷ [])) (0, omega arith, refl) (2, omega arith, refl) (1, omega arith, refl);
    after = under_three (After tally (0 ∷ 2 ∷ 1 ∷ [])) tt tt ((1, omega arith, refl), ((0, omega arith, refl), tt));
    named = under_three (Named tally) tt (omega arith, (omega arith, tt)) (omega arith, tt);
  };
  typed = under_three (TypedAt tally) (tt, tt) (tt, (omega arith, refl, (refl, refl), (refl, refl))) (tt, (refl, (refl, refl)));
  total = λ as' last H. (tally_run (H.starts 2 (omega arith)) H.run).0;
  before = λ as' last H. (tally_run (H.starts 2 (omega arith)) H.run).1;
  holds = λ as' last H. (tally_run (H.starts 2 (omega arith)) H.run).2;
  differ = λ as' bs h k A B.
      let three = tally_once (pos 3) (pos 3) refl (A.starts 2 (omega arith)) A.run in
      let four = tally_once (pos 4) (pos 4) refl (B.starts 2 (omega arith)) B.run in
      ((λ same. not_both (h 2) three (same 2 (omega arith) ∙ four)), (λ same. not_both (h 2) three (same 2 (omega arith) tt ∙ four)));
  cleared = ((λ x. 1), (under_two (λ x. 1 ≡ sheet (1 ∷ 1 ∷ []) x) refl refl), (under_three (Met tally (λ x. 1)) tt tt tt));
  inner = λ has marks.
      inner_is (has 0 2) (has 1 2) (λ h. add_stops (marks.sound 0 2 h)) (marks.complete 1 2 (direct (omega arith) (omega arith) here));
  refused = λ has marks. record {
    main = omega arith;
    within = omega arith;
    fails = λ h. tally_fails (has 0 2) (has 1 2) h;
    lower = under_one (Met tally (least (ranked 255) tally has (sheet (2 ∷ 1 ∷ [])))) tt;
  };
}

-- ---- shown

shown_beat : {h h' : Held ℤ} {s d : ℤ} {a : Answers ℤ} → Beat points shown h (s ∷ d ∷ []) a h'
    → a 2 ≡ gate (not (int_eq d (pos 0))) (gate (not (int_eq d (pos 0))) (Some (Number s)))
shown_beat B =
    B.answered 2 (omega arith)
    ∙ ap₂ (λ u v. gate (says true u) (gate (says true u) v)) (B.answered 1 (omega arith)) (B.answered 0 (omega arith))

shown_run : {h h' : Held ℤ} {as' : List (Answers ℤ)} → Run points shown h ((pos 5 ∷ pos 1 ∷ []) ∷ (pos 6 ∷ pos 0 ∷ []) ∷ []) as' h'
    → map (λ (a : Answers ℤ). a 2) as' ≡ Some (Number (pos 5)) ∷ None ∷ []
shown_run (beat A (beat B none)) = λ i. shown_beat A i ∷ shown_beat B i ∷ []

shown_tells : {h h' k k' : Held ℤ} {as' bs : List (Answers ℤ)}
    → Run points shown h ((pos 5 ∷ pos 1 ∷ []) ∷ []) as' h' → Run points shown k ((pos 5 ∷ pos 0 ∷ []) ∷ []) bs k'
    → AllZip (λ a b. a 2 ≡ b 2) as' bs → ⊥
shown_tells (beat A none) (beat B none) e =
    let same : Some (Number (pos 5)) ≡ None = sym (shown_beat A) ∙ e.0 ∙ shown_beat B in
    let z : ◌≡◌ {A = ℕ} 0 1 = cc in
    omega arith

shows : Shown
shows = record {
  ordered = record {
    all = refl;
    stands = under_three (Stands (0 ∷ 1 ∷ 2 ∷ [])) (0, omega arith, refl) (1, omega arith, refl) (2, omega arith, refl);
    after = under_three (After shown (0 ∷ 1 ∷ 2 ∷ [])) tt tt ((1, omega arith, refl), ((0, omega arith, refl), ((1, omega arith, refl), tt)));
    named = under_three (Named shown) tt tt (omega arith, (omega arith, (omega arith, tt)));
  };
  typed = under_three (TypedAt shown) (tt, tt) (tt, tt) (refl, (refl, refl, (refl, refl)));
  answers = λ as' last H. shown_run H.run;
  cleared = (sheet (1 ∷ 0 ∷ 1 ∷ []), (λ x l. refl), (under_three (Met shown (sheet (1 ∷ 0 ∷ 1 ∷ []))) tt tt tt));
  refused_value = λ has marks. record {
    main = omega arith;
    within = omega arith;
    fails = λ h. h;
    lower = under_two (Met shown (least (ranked 255) shown has (sheet (1 ∷ 0 ∷ 0 ∷ [])))) tt tt;
  };
  refused_clock = λ has marks. record {
    main = omega arith;
    within = omega arith;
    fails = λ h. h;
    lower = under_two (Met shown (least (ranked 255) shown has (sheet (0 ∷ 1 ∷ 0 ∷ [])))) tt tt;
  };
  alike = (
    under_three (λ x. Seen (ranked 255) (sheet (0 ∷ 1 ∷ 0 ∷ [])) 0 x → AtInput (get_or (pos 5 ∷ pos 1 ∷ []) x (pos 0) ≡ get_or (pos 5 ∷ pos 0 ∷ []) x (pos 0)) (row shown x).definition)
        (λ seen. refl) (λ seen. absurd seen) (λ seen. tt),
    tt,
  );
  tells = λ as' bs h k A B. (
    (λ same. shown_tells A.run B.run (each_weaker _ (λ a b. a 2 ≡ b 2) (λ a b f. f 2 (omega arith)) as' bs same)),
    (λ same. shown_tells A.run B.run (each_weaker _ (λ a b. a 2 ≡ b 2) (λ a b f. f 2 (omega arith) tt) as' bs same)),
  );
}

-- ---- clocks

pulse_beat : {h h' : Held ℤ} {z : ℤ} {a : Answers ℤ} → Beat points pulse h (z ∷ []) a h'
    → (a 1 ≡ gate (not (int_eq z (pos 0))) (Some (h 1))) × (h' 1 ≡ cond (not (int_eq z (pos 0))) (Number (pos 5)) (h 1))
pulse_beat {h} B = (
  B.answered 1 (omega arith) ∙ ap (λ u. gate (says true u) (Some (h 1))) (B.answered 0 (omega arith)),
  B.renews 1 (omega arith) ∙ ap (λ u. cond (says true u) (Number (pos 5)) (h 1)) (B.answered 0 (omega arith)),
)

pulse_run : {h h' : Held ℤ} {as' : List (Answers ℤ)} → h 1 ≡ Number (pos 0) → Run points pulse h ((pos 0 ∷ []) ∷ (pos 1 ∷ []) ∷ (pos 0 ∷ []) ∷ (pos 1 ∷ []) ∷ []) as' h'
    → map (λ (a : Answers ℤ). a 1) as' ≡ None ∷ Some (Number (pos 0)) ∷ None ∷ Some (Number (pos 5)) ∷ []
pulse_run e (beat A (beat B (beat D (beat E none)))) =
    let a = pulse_beat A in
    let b = pulse_beat B in
    let d = pulse_beat D in
    let f = pulse_beat E in
    let first = b.0 ∙ ap Some (a.1 ∙ e) in
    let second = f.0 ∙ ap Some (d.1 ∙ b.1) in
    λ i. a.0 i ∷ first i ∷ d.0 i ∷ second i ∷ []

lamp_beat : {h h' : Held ℤ} {z : ℤ} {a : Answers ℤ} → Beat points lamp h (z ∷ []) a h' → a 1 ≡ gate (not (int_eq z (pos 0))) (Some (Number (pos 5)))
lamp_beat B = B.answered 1 (omega arith) ∙ ap (λ u. gate (says true u) (Some (Number (pos 5)))) (B.answered 0 (omega arith))

lamp_run : {h h' : Held ℤ} {as' : List (Answers ℤ)} → Run points lamp h ((pos 0 ∷ []) ∷ (pos 1 ∷ []) ∷ []) as' h'
    → map (λ (a : Answers ℤ). a 1) as' ≡ None ∷ Some (Number (pos 5)) ∷ []
lamp_run (beat A (beat B none)) = λ i. lamp_beat A i ∷ lamp_beat B i ∷ []

nested_beat : {h h' : Held ℤ} {x y z : ℤ} {a : Answers ℤ} → Beat points nested h (x ∷ y ∷ z ∷ []) a h'
    → a 0 ≡ gate (says {N = ℤ} true (gate (not (not (int_eq z (pos 0)))) (Some (Truth (not (int_eq y (pos 0))))))) (Some (Number x))
nested_beat {x = x} {y = y} B =
    B.answered 0 (omega arith)
    ∙ ap (λ u. gate (says true u) (Some (Number x)))
    (B.answered 1 (omega arith) ∙ ap (λ u. gate (says false u) (Some (Truth (not (int_eq y (pos 0)))))) (B.answered 2 (omega arith)))

nested_run : {h h' : Held ℤ} {as' : List (Answers ℤ)}
    → Run points nested h ((pos 5 ∷ pos 1 ∷ pos 0 ∷ []) ∷ (pos 5 ∷ pos 0 ∷ pos 0 ∷ []) ∷ (pos 5 ∷ pos 1 ∷ pos 1 ∷ []) ∷ []) as' h'
    → map (λ (a : Answers ℤ). a 0) as' ≡ Some (Number (pos 5)) ∷ None ∷ None ∷ []
nested_run (beat A (beat B (beat D none))) = λ i. nested_beat A i ∷ nested_beat B i ∷ nested_beat D i ∷ []

clocked : Clocks
clocked = record {
  pulse_ordered = record {
    all = refl;
    stands = under_two (Stands (0 ∷ 1 ∷ [])) (0, omega arith, refl) (1, omega arith, refl);
    after = under_two (After pulse (0 ∷ 1 ∷ [])) tt ((0, omega arith, refl), tt);
    named = under_two (Named pulse) tt (omega arith, tt);
  };
  pulse_typed = under_two (TypedAt pulse) (tt, tt) (refl, (refl, refl));
  pulse_answers = λ as' last H. pulse_run (H.starts 1 (omega arith)) H.run;
  pulse_refused = λ has marks. record {
    main = omega arith;
    within = omega arith;
    fails = λ h. h;
    lower = under_one (Met pulse (least (ranked 255) pulse has (sheet (1 ∷ 0 ∷ [])))) tt;
  };
  lamp_ordered = record {
    all = refl;
    stands = under_two (Stands (0 ∷ 1 ∷ [])) (0, omega arith, refl) (1, omega arith, refl);
    after = under_two (After lamp (0 ∷ 1 ∷ [])) tt ((0, omega arith, refl), tt);
    named = under_two (Named lamp) tt (omega arith, tt);
  };
  lamp_typed = under_two (TypedAt lamp) (tt, tt) (refl, refl);
  lamp_answers = λ as' last H. lamp_run H.run;
  lamp_refused = λ has marks. record {
    main = omega arith;
    within = omega arith;
    fails = λ h. h;
    lower = under_one (Met lamp (least (ranked 255) lamp has (sheet (1 ∷ 0 ∷ [])))) tt;
  };
  nested_ordered = record {
    all = refl;
    stands = under_three (Stands (2 ∷ 1 ∷ 0 ∷ [])) (2, omega arith, refl) (1, omega arith, refl) (0, omega arith, refl);
    after = under_three (After nested (2 ∷ 1 ∷ 0 ∷ [])) tt ((0, omega arith, refl), tt) ((1, omega arith, refl), tt);
    named = under_three (Named nested) (omega arith, (omega arith, tt)) (omega arith, tt) tt;
  };
  nested_typed = under_three (TypedAt nested) (refl, tt) (refl, tt) (tt, tt);
  nested_inputs = (
    under_three (λ x. AtInput (AllByRecursion (λ d. d < 3) (clock_flows nested (row nested x).clock)) (row nested x).definition) (omega arith, (omega arith, tt)) (omega arith, tt) tt,
    under_three (λ x. AtInput (x < 3) (row nested x).definition) (omega arith) (omega arith) (omega arith),
  );
  nested_answers = λ as' last H. nested_run H.run;
  nested_refused = λ has marks. record {
    main = omega arith;
    within = omega arith;
    fails = λ h. h;
    lower = λ y l. absurd (omega arith);
  };
}

-- ---- later

later_run : {h h' : Held ℤ} {as' : List (Answers ℤ)} → h 1 ≡ Number (pos 0) → Run points later h ((pos 3 ∷ []) ∷ (pos 4 ∷ []) ∷ []) as' h'
    → map (λ (a : Answers ℤ). a 1) as' ≡ Some (Number (pos 0)) ∷ Some (Number (pos 3)) ∷ []
later_run {h} e (beat {next = k} {answers = a} A (beat {answers = b} B none)) =
    let first : a 1 ≡ Some (Number (pos 0)) = A.answered 1 (omega arith) ∙ ap Some e in
    let kept : k 1 ≡ Number (pos 3) = A.renews 1 (omega arith) ∙ ap (λ u. renewed u (h 1)) (A.answered 0 (omega arith)) in
    let second : b 1 ≡ Some (Number (pos 3)) = B.answered 1 (omega arith) ∙ ap Some kept in
    λ i. first i ∷ second i ∷ []

keeps : Later
keeps = record {
  ordered = record {
    all = refl;
    stands = under_two (Stands (0 ∷ 1 ∷ [])) (0, omega arith, refl) (1, omega arith, refl);
    after = under_two (After later (0 ∷ 1 ∷ [])) tt tt;
    named = under_two (Named later) tt (omega arith, tt);
  };
  typed = under_two (TypedAt later) (tt, tt) (tt, (refl, (refl, refl)));
  answers = λ as' last H. later_run (H.starts 1 (omega arith)) H.run;
  refused = λ has marks. record {
    main = omega arith;
    within = omega arith;
    fails = λ h. h;
    lower = under_one (Met later (least (ranked 255) later has (sheet (1 ∷ 0 ∷ [])))) tt;
  };
}

-- ---- relay

relay_fails : (b c : Bool) → T b → T ((ranked 255).below ((ranked 255).join 0 ((ranked 255).join (gathered (1 ∷ 0 ∷ []) b c) 0)) 0) → ⊥
relay_fails true true t h = h
relay_fails true false t h = h
relay_fails false c t h = t

to_three : Reaches relay 0 3
to_three = direct (omega arith) (omega arith) here

to_two : Reaches relay 0 2
to_two = onward to_three (omega arith) (omega arith) here

not_to_three : Reaches relay 1 3 → ⊥
not_to_three (direct h l i) = let e = only i in omega arith
not_to_three (onward w l h i) = let e = only i in omega arith

not_to_two : Reaches relay 1 2 → ⊥
not_to_two (direct h l i) = let e = only i in omega arith
not_to_two (onward w l h i) = not_to_three (subst (λ z. Reaches relay 1 z) (only i) w)

relayed_is : (b c : Bool) → T b → (T c → ⊥) → gathered (1 ∷ 2 ∷ []) b c ≡ 1
relayed_is true true t f = absurd (f tt)
relayed_is true false t f = refl
relayed_is false c t f = absurd t

relays : Relay
relays = record {
  ordered = record {
    all = refl;
    stands = under_four (Stands (0 ∷ 3 ∷ 2 ∷ 1 ∷ [])) (0, omega arith, refl) (3, omega arith, refl) (2, omega arith, refl) (1, omega arith, refl);
    after = under_four (After relay (0 ∷ 3 ∷ 2 ∷ 1 ∷ [])) tt ((0, omega arith, refl), tt) ((1, omega arith, refl), tt) ((2, omega arith, refl), tt);
    named = under_four (Named relay) tt (omega arith, tt) (omega arith, tt) (omega arith, tt);
  };
  typed = under_four (TypedAt relay) (tt, tt) (tt, (refl, refl)) (tt, (refl, refl)) (tt, (refl, refl));
  reached = onward to_two (omega arith) (omega arith) here;
  cleared = (sheet (1 ∷ 2 ∷ 1 ∷ 1 ∷ []), (under_two (λ x. sheet (1 ∷ 2 ∷ 1 ∷ 1 ∷ []) x ≡ sheet (1 ∷ 2 ∷ []) x) refl refl), (under_four (Met relay (sheet (1 ∷ 2 ∷ 1 ∷ 1 ∷ []))) tt tt tt tt));
  inner = λ has marks.
      relayed_is (has 0 2) (has 1 2) (marks.complete 0 2 to_two) (λ h. not_to_two (marks.sound 1 2 h));
  refused = λ has marks. record {
    main = omega arith;
    within = omega arith;
    fails = λ h. relay_fails (has 0 2) (has 1 2) (marks.complete 0 2 to_two) h;
    lower = under_one (Met relay (least (ranked 255) relay has (sheet (1 ∷ 0 ∷ [])))) tt;
  };
}

differs : (a b : Bool) → ◌≡◌ {A = Option (Value ℤ)} (Some (Truth (cond a (not b) b))) (Some (Truth (not (beq a b))))
differs true true = refl
differs true false = refl
differs false true = refl
differs false false = refl

valued : Values
unfolding int_wrap
valued = record {
  merged = refl;
  chosen = refl;
  absent_first = refl;
  absent_second = refl;
  absent_part = refl;
  other_side = refl;
  absent_choice = refl;
  by_zero = refl;
  less = refl;
  below = refl;
  same = refl;
  conjunction = λ a b. refl;
  disjunction = λ a b. refl;
  difference = differs;
}

pub worked_examples : WorkedExamples
worked_examples = record { negation = negates; tally = tallies; shown = shows; clocks = clocked; later = keeps; relay = relays; values = valued }
