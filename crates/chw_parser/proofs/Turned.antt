-- A list that is turned round twice is as before.
use Rattle.std.specs.Prelude.{◌≡◌, List, [], ◌∷◌, ◌++◌, refl}
use Rattle.std.proofs.Common.{◌∙◌}
use Rattle.std.proofs.lemmas.List.{append-nil}
use Rattle.parser_parts.specs.Stacks.{onto}

pub onto_onto : {T : Type 0} (xs ys zs : List T) → onto (onto xs ys) zs ≡ onto ys (xs ++ zs)
onto_onto [] ys zs = refl
onto_onto (x ∷ xs) ys zs = onto_onto xs (x ∷ ys) zs

pub turned : {T : Type 0} (xs : List T) → onto (onto xs []) [] ≡ xs
turned xs = onto_onto xs [] [] ∙ append-nil xs
