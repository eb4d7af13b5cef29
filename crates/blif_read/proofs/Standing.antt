-- Statements that may not stand at a place.
use Rattle.std.proofs.Common.{◌≡◌, ℕ, List, Bool, Global, Option, None, Some, Vec, refl}
use Rattle.std.specs.Borrow.{Bor}
use Rattle.blif_text.specs.Statements.{Place, place_behind}
use Rattle.blif_text.specs.Statements.Place.{at_inputs, at_model, at_node, at_outputs, at_row, behind_end}
use Rattle.blif_read.specs.Shown.{place_of, statement_of}
use Rattle.blif_read.specs.declared.places.Place.{Place as ReadPlace}
use Rattle.blif_read.specs.declared.places.Place.TheVariants.{BehindEnd}
use Rattle.blif_read.specs.declared.statement.Statement.{Statement}
use Rattle.blif_read.specs.declared.statement.Statement.TheVariants.{End, Inputs, Latch, Model, Outputs, Row, Table}

pub no_model : (s : Statement) → (s ≡ Model → ⊥) → None ≡ place_behind at_model (statement_of s)
no_model Model never = absurd (never refl)
no_model _ never = refl

pub no_inputs : (s : Statement) → ((names : Vec (Bor (List ℕ)) Global) → s ≡ Inputs names → ⊥) → None ≡ place_behind at_inputs (statement_of s)
no_inputs (Inputs names) never = absurd (never names refl)
no_inputs _ never = refl

pub no_outputs : (s : Statement) → ((names : Vec (Bor (List ℕ)) Global) → s ≡ Outputs names → ⊥) → None ≡ place_behind at_outputs (statement_of s)
no_outputs (Outputs names) never = absurd (never names refl)
no_outputs _ never = refl

pub no_node : (s : Statement) → ((reads : Vec (Bor (List ℕ)) Global) (drives : Bor (List ℕ)) → s ≡ Table reads drives → ⊥)
    → ((takes drives clock : Bor (List ℕ)) (initial : Bool) → s ≡ Latch takes drives clock initial → ⊥) → (s ≡ End → ⊥)
    → None ≡ place_behind at_node (statement_of s)
no_node (Table reads drives) no_table no_latch no_end = absurd (no_table reads drives refl)
no_node (Latch takes drives clock initial) no_table no_latch no_end = absurd (no_latch takes drives clock initial refl)
no_node End no_table no_latch no_end = absurd (no_end refl)
no_node _ no_table no_latch no_end = refl

-- where no row stands, a row's place is as a node's
pub no_row : (s : Statement) → ((marks : Bor (List ℕ)) → s ≡ Row marks → ⊥) → place_behind at_node (statement_of s) ≡ place_behind at_row (statement_of s)
no_row (Row marks) never = absurd (never marks refl)
no_row _ never = refl

pub not_at_end : (p : ReadPlace) → (p ≡ BehindEnd → ⊥) → place_of p ≡ behind_end → ⊥
not_at_end BehindEnd never is = never refl
not_at_end _ never is = cc
