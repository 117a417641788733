-- Noninterference.
use Rattle.std.proofs.Common.{ℕ, ◌<◌, T, sym, subst}
use Rattle.classes.specs.Classes.{Classes, ClassLaws}
use Rattle.numbers.specs.Reckonings.{Reckonings}
use Rattle.flat.specs.Programs.{Definition, input, plain, delay, Program, row}
use Rattle.flat.specs.Beats.{AtInput}
use Rattle.flat.specs.Constraints.{required}
use Rattle.flat.specs.Secrecy.{Seen, AlikeBelow, Noninterference}
use Rattle.flat.specs.Cleared.{SameMain, ClearedNoninterference}
use Rattle.flat.proofs.Alls.{each_weaker}
use Rattle.flat.proofs.Agreement.{starts_same, runs_same}
use Rattle.flat.proofs.Joins.{required_parts}

pub noninterference : {C N : Type 0} {m : Classes C} → ClassLaws m → (r : Reckonings N) → Noninterference m r
noninterference {m = m} laws r p order o class meets t is js as' bs h k alike A B =
    runs_same r p order o (Seen m class t)
    (λ x in_p seen. required_parts laws class t p (row p x).clock (row p x).definition
    (laws.transitive (required m p class (row p x).clock (row p x).definition) (class x) t (meets x in_p) seen))
    A.run B.run
    (λ x in_p seen. starts_same r (A.first x) (B.first x) (row p x).definition (A.starts x in_p) (B.starts x in_p))
    alike

-- an input is a main flow, and main flows have the classes that they are given
main_reads : (p : Program) (P : Type 0) (n : ℕ) (d : Definition) → AtInput (n < p.main) d → (n < p.main → AtInput P d) → AtInput P d
main_reads p P n input l f = f l
main_reads p P n (plain c) l f = tt
main_reads p P n (delay v e) l f = tt

pub cleared_noninterference : {C N : Type 0} {m : Classes C} → ClassLaws m → (r : Reckonings N) → ClearedNoninterference m r
cleared_noninterference {m = m} laws r p order o inputs given c t is js as' bs h k alike A B =
    each_weaker _ (SameMain m p given t) (λ a b f x in_p l seen. f x in_p (subst (λ u. T (m.below u t)) (sym (c.1 x l)) seen)) as' bs
    (noninterference laws r p order o c.0 c.2 t is js as' bs h k
    (each_weaker _ (AlikeBelow m p c.0 t)
    (λ i j f x in_p seen. main_reads p _ x (row p x).definition (inputs x in_p) (λ l. f x in_p l (subst (λ u. T (m.below u t)) (c.1 x l) seen)))
    is js alike)
    A B).0
