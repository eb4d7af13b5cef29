-- The rows of each state.
use Rattle.std.proofs.Common.{◌≡◌, ℕ, zero, suc, ◌<◌, Bool, true, false, ◌||◌, inl, inr, List, [], ◌∷◌, ◌++◌, length, get_or, sym, refl, ap, ◌∙◌, arith}
use Rattle.std.specs.Prelude.{◌==◌}
use Rattle.std.specs.List.{Contains, list_all, list_any}
use Rattle.std.proofs.lemmas.Bool.{false≢true, and_parts, or_cases, eqb-true}
use Rattle.verilog_text.specs.VForms.{Token}
use Rattle.verilog_parse.specs.Rows.{rows_of, slots_of}
use Rattle.verilog_parse.specs.Slots.{fits}
use Rattle.verilog_parse.specs.declared.rows.Row.{Row}
use Rattle.verilog_parse.specs.declared.rows.Row.TheVariants as row
use Rattle.verilog_parse.specs.declared.rows.State.{State}
use Rattle.verilog_parse.specs.declared.rows.State.TheVariants as state
use Rattle.verilog_parse.proofs.Taken.{clash, clash_is}

-- a number for each row
abbrev row_number : Row → ℕ
row_number row.Module = 0
row_number row.Signal = 1
row_number row.Input = 2
row_number row.Output = 3
row_number row.NextPort = 4
row_number row.LastPort = 5
row_number row.Endmodule = 6
row_number row.Wire = 7
row_number row.Register = 8
row_number row.Memory = 9
row_number row.Constant = 10
row_number row.Copy = 11
row_number row.Cut = 12
row_number row.Unary = 13
row_number row.Binary = 14
row_number row.LessSigned = 15
row_number row.ShiftSigned = 16
row_number row.Choice = 17
row_number row.Join = 18
row_number row.NextPart = 19
row_number row.LastPart = 20
row_number row.Edge = 21
row_number row.ResetEdge = 22
row_number row.Ram = 23
row_number row.NextWord = 24
row_number row.RamEdge = 25
row_number row.Use = 26
row_number row.NextConnection = 27
row_number row.LastConnection = 28

abbrev row_at : ℕ → Row
row_at zero = row.Module
row_at (suc zero) = row.Signal
row_at (suc (suc zero)) = row.Input
row_at (suc (suc (suc zero))) = row.Output
row_at (suc (suc (suc (suc zero)))) = row.NextPort
row_at (suc (suc (suc (suc (suc zero))))) = row.LastPort
row_at (suc (suc (suc (suc (suc (suc zero)))))) = row.Endmodule
row_at (suc (suc (suc (suc (suc (suc (suc zero))))))) = row.Wire
row_at (suc (suc (suc (suc (suc (suc (suc (suc zero)))))))) = row.Register
row_at (suc (suc (suc (suc (suc (suc (suc (suc (suc zero))))))))) = row.Memory
row_at (suc (suc (suc (suc (suc (suc (suc (suc (suc (suc zero)))))))))) = row.Constant
row_at (suc (suc (suc (suc (suc (suc (suc (suc (suc (suc (suc zero))))))))))) = row.Copy
row_at (suc (suc (suc (suc (suc (suc (suc (suc (suc (suc (suc (suc zero)))))))))))) = row.Cut
row_at (suc (suc (suc (suc (suc (suc (suc (suc (suc (suc (suc (suc (suc zero))))))))))))) = row.Unary
row_at (suc (suc (suc (suc (suc (suc (suc (suc (suc (suc (suc (suc (suc (suc zero)))))))))))))) = row.Binary
row_at (suc (suc (suc (suc (suc (suc (suc (suc (suc (suc (suc (suc (suc (suc (suc zero))))))))))))))) = row.LessSigned
row_at (suc (suc (suc (suc (suc (suc (suc (suc (suc (suc (suc (suc (suc (suc (suc (suc zero)))))))))))))))) = row.ShiftSigned
row_at (suc (suc (suc (suc (suc (suc (suc (suc (suc (suc (suc (suc (suc (suc (suc (suc (suc zero))))))))))))))))) = row.Choice
row_at (suc (suc (suc (suc (suc (suc (suc (suc (suc (suc (suc (suc (suc (suc (suc (suc (suc (suc zero)))))))))))))))))) = row.Join
row_at (suc (suc (suc (suc (suc (suc (suc (suc (suc (suc (suc (suc (suc (suc (suc (suc (suc (suc (suc zero))))))))))))))))))) = row.NextPart
row_at (suc (suc (suc (suc (suc (suc (suc (suc (suc (suc (suc (suc (suc (suc (suc (suc (suc (suc (suc (suc zero)))))))))))))))))))) = row.LastPart
row_at (suc (suc (suc (suc (suc (suc (suc (suc (suc (suc (suc (suc (suc (suc (suc (suc (suc (suc (suc (suc (suc zero))))))))))))))))))))) = row.Edge
row_at (suc (suc (suc (suc (suc (suc (suc (suc (suc (suc (suc (suc (suc (suc (suc (suc (suc (suc (suc (suc (suc (suc zero)))))))))))))))))))))) = row.ResetEdge
row_at (suc (suc (suc (suc (suc (suc (suc (suc (suc (suc (suc (suc (suc (suc (suc (suc (suc (suc (suc (suc (suc (suc (suc zero))))))))))))))))))))))) = row.Ram
row_at (suc (suc (suc (suc (suc (suc (suc (suc (suc (suc (suc (suc (suc (suc (suc (suc (suc (suc (suc (suc (suc (suc (suc (suc zero)))))))))))))))))))))))) = row.NextWord
row_at (suc (suc (suc (suc (suc (suc (suc (suc (suc (suc (suc (suc (suc (suc (suc (suc (suc (suc (suc (suc (suc (suc (suc (suc (suc zero))))))))))))))))))))))))) = row.RamEdge
row_at (suc (suc (suc (suc (suc (suc (suc (suc (suc (suc (suc (suc (suc (suc (suc (suc (suc (suc (suc (suc (suc (suc (suc (suc (suc (suc zero)))))))))))))))))))))))))) = row.Use
row_at (suc (suc (suc (suc (suc (suc (suc (suc (suc (suc (suc (suc (suc (suc (suc (suc (suc (suc (suc (suc (suc (suc (suc (suc (suc (suc (suc zero))))))))))))))))))))))))))) = row.NextConnection
row_at _ = row.LastConnection

row_back : (x : Row) → row_at (row_number x) ≡ x
row_back row.Module = refl
row_back row.Signal = refl
row_back row.Input = refl
row_back row.Output = refl
row_back row.NextPort = refl
row_back row.LastPort = refl
row_back row.Endmodule = refl
row_back row.Wire = refl
row_back row.Register = refl
row_back row.Memory = refl
row_back row.Constant = refl
row_back row.Copy = refl
row_back row.Cut = refl
row_back row.Unary = refl
row_back row.Binary = refl
row_back row.LessSigned = refl
row_back row.ShiftSigned = refl
row_back row.Choice = refl
row_back row.Join = refl
row_back row.NextPart = refl
row_back row.LastPart = refl
row_back row.Edge = refl
row_back row.ResetEdge = refl
row_back row.Ram = refl
row_back row.NextWord = refl
row_back row.RamEdge = refl
row_back row.Use = refl
row_back row.NextConnection = refl
row_back row.LastConnection = refl

-- the rows are one row
abbrev pub same_row : Row → Row → Bool
same_row a b = row_number a == row_number b

pub same_row_is : (a b : Row) → same_row a b ≡ true → a ≡ b
same_row_is a b same = sym (row_back a) ∙ ap row_at (eqb-true _ _ same) ∙ row_back b

pub same_row_refl : (a : Row) → same_row a a ≡ true
same_row_refl row.Module = refl
same_row_refl row.Signal = refl
same_row_refl row.Input = refl
same_row_refl row.Output = refl
same_row_refl row.NextPort = refl
same_row_refl row.LastPort = refl
same_row_refl row.Endmodule = refl
same_row_refl row.Wire = refl
same_row_refl row.Register = refl
same_row_refl row.Memory = refl
same_row_refl row.Constant = refl
same_row_refl row.Copy = refl
same_row_refl row.Cut = refl
same_row_refl row.Unary = refl
same_row_refl row.Binary = refl
same_row_refl row.LessSigned = refl
same_row_refl row.ShiftSigned = refl
same_row_refl row.Choice = refl
same_row_refl row.Join = refl
same_row_refl row.NextPart = refl
same_row_refl row.LastPart = refl
same_row_refl row.Edge = refl
same_row_refl row.ResetEdge = refl
same_row_refl row.Ram = refl
same_row_refl row.NextWord = refl
same_row_refl row.RamEdge = refl
same_row_refl row.Use = refl
same_row_refl row.NextConnection = refl
same_row_refl row.LastConnection = refl

abbrev pub is_among : List Row → Row → Bool
is_among rows x = list_any (same_row x) rows

pub or_left : (a b : Bool) → a ≡ true → (a || b) ≡ true
or_left true b is = refl
or_left false b is = absurd (false≢true is)

pub or_right : (a b : Bool) → b ≡ true → (a || b) ≡ true
or_right true b is = refl
or_right false b is = is

pub among : (rows : List Row) (x : Row) → Contains rows x → is_among rows x ≡ true
among rows x contains = at rows contains.0 contains.1 contains.2
  where
    at : (rows : List Row) (k : ℕ) → k < length rows → get_or rows k x ≡ x → is_among rows x ≡ true
    at [] k within is = absurd (omega (arith, within))
    at (r ∷ rows) zero within is = or_left _ _ (ap (same_row x) is ∙ same_row_refl x)
    at (r ∷ rows) (suc k) within is = or_right _ _ (at rows k (omega (arith, within)) is)

-- what holds of each row of a list holds of each that is among them
of_among : (test : Row → Bool) (rows : List Row) (x : Row) → list_all test rows ≡ true → is_among rows x ≡ true → test x ≡ true
of_among test [] x each here = absurd (false≢true here)
of_among test (r ∷ rows) x each here =
    let parts = and_parts _ _ each in
    elim (or_cases _ _ here) [
      | inl same ↦ ap test (same_row_is x r same) ∙ parts.0
      | inr later ↦ of_among test rows x parts.1 later
    ]

-- two rows are one, or some token is not taken by both
abbrev one_or_clash : Row → Row → Bool
one_or_clash a b = same_row a b || clash (slots_of a) (slots_of b)

abbrev are_distinct : List Row → Bool
are_distinct rows = list_all (λ a. list_all (one_or_clash a) rows) rows

distinct_rows : (s : State) → are_distinct (rows_of s) ≡ true
distinct_rows state.Text = refl
distinct_rows state.Modules = refl
distinct_rows state.Port = refl
distinct_rows state.Ports = refl
distinct_rows state.Item = refl
distinct_rows state.ItemOrMemory = refl
distinct_rows state.Parts = refl
distinct_rows state.Words = refl
distinct_rows state.Connections = refl

-- tokens begin with at most one row of a state
pub one_row : (s : State) (a b : Row) (front other r t : List Token) → is_among (rows_of s) a ≡ true → is_among (rows_of s) b ≡ true
    → fits (slots_of a) front ≡ true → fits (slots_of b) other ≡ true → front ++ r ≡ other ++ t → a ≡ b
one_row s a b front other r t first second fit again same =
    let all = of_among (λ a. list_all (one_or_clash a) (rows_of s)) (rows_of s) a (distinct_rows s) first in
    elim (or_cases _ _ (of_among (one_or_clash a) (rows_of s) b all second)) [
      | inl one ↦ same_row_is a b one
      | inr differ ↦ absurd (clash_is (slots_of a) (slots_of b) front other r t differ fit again same)
    ]

-- a row has a token
pub some_token : (x : Row) → fits (slots_of x) [] ≡ true → ⊥
some_token row.Module fit = false≢true fit
some_token row.Signal fit = false≢true fit
some_token row.Input fit = false≢true fit
some_token row.Output fit = false≢true fit
some_token row.NextPort fit = false≢true fit
some_token row.LastPort fit = false≢true fit
some_token row.Endmodule fit = false≢true fit
some_token row.Wire fit = false≢true fit
some_token row.Register fit = false≢true fit
some_token row.Memory fit = false≢true fit
some_token row.Constant fit = false≢true fit
some_token row.Copy fit = false≢true fit
some_token row.Cut fit = false≢true fit
some_token row.Unary fit = false≢true fit
some_token row.Binary fit = false≢true fit
some_token row.LessSigned fit = false≢true fit
some_token row.ShiftSigned fit = false≢true fit
some_token row.Choice fit = false≢true fit
some_token row.Join fit = false≢true fit
some_token row.NextPart fit = false≢true fit
some_token row.LastPart fit = false≢true fit
some_token row.Edge fit = false≢true fit
some_token row.ResetEdge fit = false≢true fit
some_token row.Ram fit = false≢true fit
some_token row.NextWord fit = false≢true fit
some_token row.RamEdge fit = false≢true fit
some_token row.Use fit = false≢true fit
some_token row.NextConnection fit = false≢true fit
some_token row.LastConnection fit = false≢true fit
