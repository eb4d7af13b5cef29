-- Each data type of a program that was read has a constructor.
use Rattle.std.proofs.Common.{◌≡◌, ℕ, zero, suc, ◌<◌, List, [], ◌∷◌, ◌++◌, length, map, Some, option_map, ap, ◌∙◌, subst, arith}
use Rattle.std.specs.List.{flat_map, slice_get}
use Rattle.std.proofs.lemmas.Option.{none-some, same_Some, slice_get-map}
use Rattle.chw_grammar.specs.declared.program.Declaration.{Declaration}
use Rattle.chw_grammar.specs.declared.program.Tree.{Tree}
use Rattle.chw_grammar.specs.Grammar.{DeclarationAt, domain_declared, reset_declared, definition_declared, data_declared, DeclarationsAt, no_declaration, declared}
use Rattle.chw_grammar.specs.Lexemes.{Lexeme}
use Rattle.chw_names.specs.declared.globals.Globals.{Globals}
use Rattle.chw_names.specs.Globals.{globals_of}
use Rattle.chw_types.specs.declared.declarations.Data.{Data}
use Rattle.chw_resolve.specs.Faults.{data_types_of}
use Rattle.chw_resolve.specs.Written.{WasRead}
use Rattle.chw_resolve.specs.Programs.{datas_in, without_kind}

abbrev AreInhabited : List Data → Type 0
AreInhabited [] = Unit {0}
AreInhabited (it ∷ its) = (0 < length it.cons) × AreInhabited its

inhabited_at : (its : List Data) (d : ℕ) (it : Data) → AreInhabited its → slice_get its d ≡ Some it → 0 < length it.cons
inhabited_at [] d it all h = absurd (none-some it h)
inhabited_at (x ∷ xs) zero it all h = subst (λ (y : Data). 0 < length y.cons) (same_Some x it h) all.0
inhabited_at (x ∷ xs) (suc d) it all h = inhabited_at xs d it all.1 h

one_inhabited : {x : Declaration} {a b : List Lexeme} → DeclarationAt x a b → (g : Globals) (rest : List Data) → AreInhabited rest → AreInhabited (datas_in g x ++ rest)
one_inhabited (domain_declared _ _ _ _ _) g rest all = all
one_inhabited (reset_declared _ _ _ _ _ _ _) g rest all = all
one_inhabited (definition_declared _ _ _ _ _ _ _ _ _ _ _ _ _) g rest all = all
one_inhabited (data_declared _ _ _ _ _ _ _ _ _ _ _ _ _) g rest all = (omega arith, all)

each_inhabited : {xs : List Declaration} {a b : List Lexeme} → DeclarationsAt xs a b → (g : Globals) → AreInhabited (flat_map (datas_in g) xs)
each_inhabited no_declaration g = tt
each_inhabited (declared {xs = xs} b one more) g = one_inhabited one g (flat_map (datas_in g) xs) (each_inhabited more g)

all_inhabited : {text : List ℕ} (tree : Tree) → WasRead text tree → AreInhabited (data_types_of tree)
all_inhabited tree read = (omega arith, (omega arith, (omega arith, each_inhabited read.reads.declared (globals_of tree.declarations))))

pub inhabited : {text : List ℕ} (tree : Tree) (datas : List Data) → WasRead text tree → map without_kind datas ≡ data_types_of tree → (d : ℕ) (it : Data) → slice_get datas d ≡ Some it → 0 < length it.cons
inhabited tree datas read same d it h =
    inhabited_at (data_types_of tree) d (without_kind it) (all_inhabited tree read)
    (subst (λ (its : List Data). slice_get its d ≡ Some (without_kind it)) same (slice_get-map without_kind datas d ∙ ap (option_map without_kind) h))
