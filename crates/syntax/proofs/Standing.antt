-- Fields that stand in bits one after another, and what holds of whatever a reading gives.
use Rattle.std.proofs.Common.{◌≡◌, ℕ, ◌+◌, ◌-◌, ◌^◌, ◌<◌, ◌≤◌, Bool, true, false, cond, leb, List, [], ◌∷◌, ◌++◌, length, get_or, take, drop, Some, None, Ok, Err, Result, sym, refl, ap, ◌∙◌, subst, ⊎_elim, arith}
use Rattle.std.proofs.lemmas.Bool.{leb-true, le-leb, cases_lt}
use Rattle.std.proofs.lemmas.List.{length-take, length-take-le, length-drop, length-append, take_at, drop_at, append_assoc, get_or-take, get_or-drop, get_or_past, take-append-drop, drop-drop}
use Rattle.syntax.specs.declared.fault.ReadFault.{ReadFault}
use Rattle.bits.specs.Bits.{number_of, digits, field_at}
use Rattle.bits.proofs.BitLists.{number_of-below, digits_number, number_digits, length_digits}
use Rattle.syntax.specs.Parse.{Parser, after, field, found}
use Rattle.syntax.specs.Encoder.{Field, field_bits, fields_bits}
use Rattle.std.specs.List.{AllByRecursion}

-- every element is 0 or 1
abbrev pub AreBits : List ℕ → Type 0
AreBits bits = (i : ℕ) → get_or bits i 0 < 2

-- the fields stand in the bits from `at` on, one after another, up to q
abbrev pub Stands : List ℕ → ℕ → List Field → ℕ → Type 0
Stands bits at [] q = at ≡ q
Stands bits at (f ∷ fs) q = (m : ℕ) × (field f.0 bits at ≡ Ok (f.1, m)) × Stands bits m fs q

-- P holds of what a reading gives and of the place after it
pub record Made {A : Type 0} (r : Result (A × ℕ) ReadFault) (P : A → ℕ → Type 0) : Type 0 where
  pub made : (x : A) (q : ℕ) → r ≡ Ok (x, q) → P x q

pub made_ok : {A : Type 0} {P : A → ℕ → Type 0} {x : A} {q : ℕ} → P x q → Made (Ok (x, q)) P
made_ok {A} {P} {x} {q} h = record {
  made = λ y p e.
      let same : ◌≡◌ {A = A × ℕ} (x, q) (y, p) = cc in
      subst (λ (r : A × ℕ). P r.0 r.1) same h;
}

pub made_err : {A : Type 0} {P : A → ℕ → Type 0} {f : ReadFault} → Made (Err f) P
made_err {A} {P} {f} = record { made = λ y p e. let z : ◌≡◌ {A = ℕ} 0 1 = cc in absurd (omega arith) }

-- a reading and what comes after it
pub made_after : {A B : Type 0} {P : A → ℕ → Type 0} {Q : B → ℕ → Type 0} (r : Result (A × ℕ) ReadFault) (k : A → ℕ → Result (B × ℕ) ReadFault)
    → Made r P → ((x : A) (m : ℕ) → P x m → Made (k x m) Q) → Made (after r k) Q
made_after (Ok r) k h f = f r.0 r.1 (h.made r.0 r.1 refl)
made_after (Err e) k h f = made_err

-- the one or the other reading, by a test
pub made_cond : {A : Type 0} {Q : A → ℕ → Type 0} (t : Bool) (p r : Parser A) (bits : List ℕ) (at : ℕ)
    → (t ≡ true → Made (p bits at) Q) → (t ≡ false → Made (r bits at) Q) → Made (cond t p r bits at) Q
made_cond true p r bits at f g = f refl
made_cond false p r bits at f g = g refl

pub stands_append : (bits : List ℕ) (at : ℕ) (fs gs : List Field) (m q : ℕ) → Stands bits at fs m → Stands bits m gs q → Stands bits at (fs ++ gs) q
stands_append bits at [] gs m q a b = rw a b
stands_append bits at (f ∷ fs) gs m q a b = (a.0, a.1, stands_append bits a.0 fs gs m q a.2 b)

pub stands_parts : (bits : List ℕ) (at : ℕ) (fs gs : List Field) (q : ℕ) → Stands bits at (fs ++ gs) q → (m : ℕ) × Stands bits at fs m × Stands bits m gs q
stands_parts bits at [] gs q h = (at, refl, h)
stands_parts bits at (f ∷ fs) gs q h =
    let r = stands_parts bits h.0 fs gs q h.2 in
    (r.0, (h.0, h.1, r.1), r.2)

-- what a field that is there says of the bits
pub record Read (w : ℕ) (bits : List ℕ) (at v m : ℕ) : Type 0 where
  pub place : m ≡ at + w
  pub within : at + w ≤ length bits
  pub value : v ≡ number_of (take w (drop at bits))

found_gave : (w : ℕ) (bits : List ℕ) (at v m : ℕ) (t : Bool) → (t ≡ true → at + w ≤ length bits) → found w at (cond t (Some (number_of (take w (drop at bits)))) None) ≡ Ok (v, m) → Read w bits at v m
found_gave w bits at v m true h e =
    let same : ◌≡◌ {A = ℕ × ℕ} (number_of (take w (drop at bits)), at + w) (v, m) = cc in
    record { place = sym (ap (λ (r : ℕ × ℕ). r.1) same); within = h refl; value = sym (ap (λ (r : ℕ × ℕ). r.0) same) }
found_gave w bits at v m false h e = let z : ◌≡◌ {A = ℕ} 0 1 = cc in absurd (omega arith)

pub field_gave : (w : ℕ) (bits : List ℕ) (at v m : ℕ) → field w bits at ≡ Ok (v, m) → Read w bits at v m
unfolding field field_at
field_gave w bits at v m e = found_gave w bits at v m (leb (at + w) (length bits)) (leb-true (at + w) (length bits)) e

pub field-gives : (w : ℕ) (bits : List ℕ) (at : ℕ) → at + w ≤ length bits → field w bits at ≡ Ok (number_of (take w (drop at bits)), at + w)
unfolding field field_at
field-gives w bits at h = rw (le-leb (at + w) (length bits) h)

part_bits : (bits : List ℕ) (at w : ℕ) → AreBits bits → AreBits (take w (drop at bits))
part_bits bits at w h i = ⊎_elim
    (λ (l : i < w). rw (get_or-take w (drop at bits) i 0 l, get_or-drop at bits i 0) (h (at + i)))
    (λ (l : w ≤ i). rw (get_or_past (take w (drop at bits)) i 0 (simp length-take (omega arith))) (omega arith))
    (cases_lt i w)

part_length : (bits : List ℕ) (at w : ℕ) → at + w ≤ length bits → length (take w (drop at bits)) ≡ w
part_length bits at w l = length-take-le w (drop at bits) (simp length-drop (omega arith))

pub field_below : (w : ℕ) (bits : List ℕ) (at v m : ℕ) → AreBits bits → field w bits at ≡ Ok (v, m) → v < 2 ^ w
field_below w bits at v m h e =
    let r = field_gave w bits at v m e in
    let l = part_length bits at w r.within in
    let b = number_of-below (take w (drop at bits)) (part_bits bits at w h) in
    rw r.value (rw l at b)

-- a value that has room in its field
abbrev pub FieldFits : Field → Type 0
FieldFits f = f.1 < 2 ^ f.0

-- fields that stand are the bits there
pub record Laid (bits : List ℕ) (at : ℕ) (fs : List Field) (q : ℕ) : Type 0 where
  pub laid : drop at bits ≡ fields_bits fs ++ drop q bits
  pub inside : q ≤ length bits

field_laid : (w : ℕ) (bits : List ℕ) (at v m : ℕ) → AreBits bits → field w bits at ≡ Ok (v, m) → drop at bits ≡ digits w v ++ drop m bits
field_laid w bits at v m h e =
    let r = field_gave w bits at v m e in
    let part : List ℕ = take w (drop at bits) in
    let l = part_length bits at w r.within in
    let d = digits_number part (part_bits bits at w h) in
    let s : digits w v ≡ part = rw r.value (rw l at d) in
    let z : drop w (drop at bits) ≡ drop m bits = rw r.place (drop-drop w at bits) in
    sym (rw (s, ← z) (take-append-drop w (drop at bits)))

pub stands_laid : (bits : List ℕ) (at : ℕ) (fs : List Field) (q : ℕ) → AreBits bits → at ≤ length bits → Stands bits at fs q → Laid bits at fs q
stands_laid bits at [] q h l s = record { laid = rw s; inside = rw s at l }
stands_laid bits at (f ∷ fs) q h l s =
    let r = field_gave f.0 bits at f.1 s.0 s.1 in
    let within : s.0 ≤ length bits = rw r.place r.within in
    let d = stands_laid bits s.0 fs q h within s.2 in
    let e = field_laid f.0 bits at f.1 s.0 h s.1 in
    record { laid = e ∙ rw d.laid (sym (append_assoc (field_bits f) (fields_bits fs) (drop q bits))); inside = d.inside }

-- bits that are those of fields hold the fields
pub laid_stands : (bits : List ℕ) (at : ℕ) (fs : List Field) (rest : List ℕ) → AllByRecursion FieldFits fs → at ≤ length bits → drop at bits ≡ fields_bits fs ++ rest → Stands bits at fs (at + length (fields_bits fs))
laid_stands bits at [] rest g l e = omega arith
laid_stands bits at (f ∷ fs) rest g l e =
    let more : List ℕ = fields_bits fs ++ rest in
    let split : drop at bits ≡ field_bits f ++ more = e ∙ append_assoc (field_bits f) (fields_bits fs) rest in
    let w = length_digits f.0 f.1 in
    let all : length bits - at ≡ f.0 + length more = sym (length-drop at bits) ∙ ap length split ∙ length-append (field_bits f) more ∙ ap (λ n. n + length more) w in
    let within : at + f.0 ≤ length bits = omega arith in
    let front : take f.0 (drop at bits) ≡ field_bits f = rw split (take_at (field_bits f) more f.0 w) in
    let back : drop (at + f.0) bits ≡ more = sym (drop-drop f.0 at bits) ∙ rw split (drop_at (field_bits f) more f.0 w) in
    let here = rw (front, number_digits f.0 f.1 g.0) at (field-gives f.0 bits at within) in
    let rest_stands = laid_stands bits (at + f.0) fs rest g.1 within back in
    let place : at + f.0 + length (fields_bits fs) ≡ at + length (field_bits f ++ fields_bits fs) = simp (length-append, w) (omega arith) in
    (at + f.0, here, rw place at rest_stands)
