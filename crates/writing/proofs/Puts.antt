-- Fields written one after another.
use Rattle.std.proofs.Common.{◌≡◌, ℕ, ◌+◌, ◌<◌, List, [], ◌∷◌, ◌++◌, map, length, get_or, take, drop, sym, refl, ap, ◌∙◌, add-zero, add_assoc, zero-add, arith}
use lib.ListN.{length-map}
use Rattle.std.proofs.lemmas.List.{take_more, take-append-drop, drop_more}
use Rattle.bits.specs.Bits.{digits}
use Rattle.bits.specs.Overwriting.{set_bits}
use Rattle.syntax.specs.declared.cell.Cell.{Cell}
use Rattle.std.specs.List.{flat_map}
use Rattle.std.proofs.lemmas.List.Concat.{flat_map-append}
use Rattle.syntax.specs.Encoder.{Field}
use Rattle.writing.specs.declared.writer.BitWriter.{BitWriter}
use Rattle.writing.specs.Writing.{size, put_fields, Room, Wrote}
use Rattle.layout.proofs.Lists.{flat_map-push}

pub size_append : (a b : List Field) → size (a ++ b) ≡ size a + size b
size_append [] b = sym (zero-add (size b))
size_append (f ∷ fs) b = ap (λ n. f.0 + n) (size_append fs b) ∙ sym (add_assoc f.0 (size fs) (size b))

pub put_append : (out : List ℕ) (at : ℕ) (a b : List Field) → put_fields out at (a ++ b) ≡ put_fields (put_fields out at a) (at + size a) b
put_append out at [] b = ap (λ n. put_fields out n b) (sym (add-zero at))
put_append out at (f ∷ fs) b =
    put_append (set_bits out at (digits f.0 f.1)) (at + f.0) fs b
    ∙ ap (λ n. put_fields (put_fields out at (f ∷ fs)) n b) (add_assoc at f.0 (size fs))

-- one part after the other
wrote_both : (a b : List Field) {w w' w'' : BitWriter} → Wrote a w w' → Wrote b w' w'' → Wrote (a ++ b) w w''
wrote_both a b {w} v u = record {
  place = omega (arith, u.place, v.place, size_append a b);
  bytes = u.bytes ∙ (λ i. put_fields (v.bytes i) (v.place i) b) ∙ sym (put_append w.out.now w.at a b);
  same_bytes = u.same_bytes ∙ v.same_bytes;
  same_cells = u.same_cells ∙ v.same_cells;
}

-- nothing
pub wrote_none : {A : Type 0} (fields : A → List Field) (w : BitWriter) → Wrote (flat_map fields []) w w
wrote_none fields w = record { place = sym (add-zero w.at); bytes = refl; same_bytes = refl; same_cells = refl }

-- the first k rows are written, and x is the next
module _ {A : Type 0} (fields : List Cell → A → List Field) (xs : List A) (k : ℕ) (x : A) (h : k < length xs) (e : x ≡ get_or xs k x) (w₀ w : BitWriter) (v : Wrote (flat_map (fields w₀.cells.now) (take k xs)) w₀ w) where
  next : take (k + 1) xs ≡ take k xs ++ (x ∷ [])
  next = take_more xs k x h ∙ ap (λ y. take k xs ++ (y ∷ [])) (sym e)

  first_next : flat_map (fields w₀.cells.now) (take (k + 1) xs) ≡ flat_map (fields w₀.cells.now) (take k xs) ++ fields w.cells.now x
  first_next =
      ap (flat_map (fields w₀.cells.now)) next
      ∙ flat_map-push (fields w₀.cells.now) (take k xs) x
      ∙ ap (λ cells. flat_map (fields w₀.cells.now) (take k xs) ++ fields cells x) (sym v.same_cells)

  all : flat_map (fields w₀.cells.now) xs ≡ flat_map (fields w₀.cells.now) (take k xs) ++ fields w.cells.now x ++ flat_map (fields w₀.cells.now) (drop (k + 1) xs)
  all =
      ap (flat_map (fields w₀.cells.now)) (sym (take-append-drop (k + 1) xs))
      ∙ flat_map-append (fields w₀.cells.now) (take (k + 1) xs) (drop (k + 1) xs)
      ∙ ap (λ fs. fs ++ flat_map (fields w₀.cells.now) (drop (k + 1) xs)) first_next

  pub room_next : Room (flat_map (fields w₀.cells.now) xs) w₀ → Room (fields w.cells.now x) w
  room_next r =
      let first = flat_map (fields w₀.cells.now) (take k xs) in
      let last = flat_map (fields w₀.cells.now) (drop (k + 1) xs) in
      record { bits = omega (arith, r.bits, ap size all, size_append (first ++ fields w.cells.now x) last, size_append first (fields w.cells.now x), v.place) }

  pub wrote_next : (w' : BitWriter) → Wrote (fields w.cells.now x) w w' → Wrote (flat_map (fields w₀.cells.now) (take (k + 1) xs)) w₀ w'
  wrote_next w' u = rw first_next (wrote_both (flat_map (fields w₀.cells.now) (take k xs)) (fields w.cells.now x) v u)

-- the fields of what a function makes of the rows
pub flat_map-map : {A B C : Type 0} (f : B → List C) (g : A → B) (xs : List A) → flat_map f (map g xs) ≡ flat_map (λ x. f (g x)) xs
flat_map-map f g [] = refl
flat_map-map f g (x ∷ xs) = ap (λ ys. f (g x) ++ ys) (flat_map-map f g xs)

-- by the rows themselves
pub ruleset mapped = (flat_map-map, length-map)
