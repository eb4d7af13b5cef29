-- What is promised of data types that have the kinds which their fields give them.
use Rattle.std.specs.Prelude.{◌≡◌, ℕ, List}
use Rattle.chw_types.specs.declared.declarations.Data.{Data}
use Rattle.chw_terms.specs.declared.program.Program.{Program}
use Rattle.chw_terms.specs.References.{DataRefers}
use Rattle.graph_order.specs.References.{HasNoCycle}
use Rattle.chw_terms.specs.Tidy.{IsTidy}
use Rattle.data_kinds.specs.Kinds.{HaveTheirKinds, SameButKinds}

-- there is one way to give data types without a cycle their kinds
abbrev pub OneWay : Type 0
OneWay =
    (domains : ℕ) (ds es : List Data) → SameButKinds ds es → HasNoCycle (DataRefers ds) → HaveTheirKinds ds domains → HaveTheirKinds es domains
    → ds ≡ es

-- tidy programs are the same where they are so but for the kinds of their data types
abbrev pub OneProgram : Type 0
OneProgram =
    (p q : Program) → p.domains ≡ q.domains → p.resets ≡ q.resets → SameButKinds p.datas q.datas → p.defs ≡ q.defs
    → p.top ≡ q.top → IsTidy p → IsTidy q → p ≡ q
