-- The tokens of a text have their forms, and stand in order.
use Rattle.std.proofs.Common.{◌≡◌, ℕ, ◌+◌, ◌<◌, List, [], ◌∷◌, ◌++◌, length, arith}
use Rattle.std.specs.List.{AllByRecursion}
use Rattle.std.proofs.lemmas.List.{length-append}
use Rattle.verilog_text.specs.VForms.{HasForm, Sort}
use Rattle.verilog_text.specs.VTokens.{Placed, TokensFrom}
use Rattle.verilog_text.specs.VTokens.TokensFrom.{ends, next}
use Rattle.verilog_text.proofs.Firsts.{form_empty}
use Rattle.verilog_lex.specs.Splitting.{AreInOrder, HasItsForm}

pub have_forms : {at : ℕ} {text : List ℕ} {tokens : List Placed} → TokensFrom at text tokens → AllByRecursion HasItsForm tokens
have_forms (ends at rest last) = tt
have_forms (next at gap bytes rest sort tokens gaps longest splits) = (longest.form, have_forms splits)

pub form_length : (sort : Sort) (bytes : List ℕ) → HasForm sort bytes → 0 < length bytes
form_length sort [] form = absurd (form_empty sort form)
form_length sort (b ∷ bytes) form = omega arith

pub in_order : {at : ℕ} {text : List ℕ} {tokens : List Placed} → TokensFrom at text tokens → (end : ℕ) → end ≡ at + length text → AreInOrder at end tokens
in_order (ends at rest last) end same = tt
in_order (next at gap bytes rest sort tokens gaps longest splits) end same =
    let some = form_length sort bytes longest.form in
    let outer = length-append gap (bytes ++ rest) in
    let inner = length-append bytes rest in
    (omega arith, omega arith, omega arith, in_order splits end (omega arith))
