-- What rules see of made definitions: where they come from, and never what has become of them.
use Rattle.std.specs.Prelude.{◌≡◌, ℕ, suc, zero, List, [], ◌∷◌, map, length, slice_get}
use Rattle.std.specs.Prelude.{unwrap_or, option_map}
use Rattle.chw_types.specs.TypeTree.{TypeTree}
use Rattle.chw_terms.specs.declared.program.Program.{Program}
use Rattle.chw_terms.specs.declared.scene.Made.{Made}
use Rattle.chw_terms.specs.declared.scene.Scene.{Scene}
use Rattle.chw_terms.specs.declared.scene.Sort.{Sort}
use Rattle.chw_terms.specs.TermTree.{TermTree, var, global, made, lam, app, ty_lam, ty_app}
use Rattle.chw_terms.specs.TermTree.{letrec, con, prim, lit, vec_lit, case_of, Terms, no_terms}
use Rattle.chw_terms.specs.TermTree.{term_and, Group, no_bindings, bind, Alts, no_alts, alt}
use Rattle.chw_terms.specs.TermMoves.{shift}
use Rattle.chw_typing.specs.Scopes.{Setting}

-- of a made definition: what it was made of, its type, and what it gives
pub record MadeOf : Type 0 where
  pub origin : TermTree
  pub ty : TypeTree
  pub sort : Sort

-- of a scene: its program, and of each made definition that
pub record Origins : Type 0 where
  pub program : Program
  pub made : List MadeOf

abbrev pub made_of : Made → MadeOf
made_of m = record { origin = m.origin; ty = m.ty; sort = m.sort }

abbrev pub origins_of : Scene → Origins
origins_of scene = record { program = scene.program.now; made = map made_of scene.made.now }

-- what terms are typed over there
abbrev pub setting_at : Origins → Setting
setting_at o =
    record {
      datas = o.program.datas;
      domains = length o.program.domains;
      defs = map (λ d. d.ty) o.program.defs;
      made = map (λ (m : MadeOf). m.ty) o.made;
    }

unfoldable mutual
  -- a closed term for each made definition
  pub with_origins : (ℕ → TermTree) → TermTree → TermTree
  with_origins o (var x) = var x
  with_origins o (global d) = global d
  with_origins o (made m) = o m
  with_origins o (lam t e) = lam t (with_origins o e)
  with_origins o (app f a) = app (with_origins o f) (with_origins o a)
  with_origins o (ty_lam k e) = ty_lam k (with_origins o e)
  with_origins o (ty_app f t) = ty_app (with_origins o f) t
  with_origins o (letrec g e) = letrec (with_origins_group o g) (with_origins o e)
  with_origins o (con c) = con c
  with_origins o (prim q) = prim q
  with_origins o (lit s b) = lit s b
  with_origins o (vec_lit t es) = vec_lit t (with_origins_all o es)
  with_origins o (case_of e alts) = case_of (with_origins o e) (with_origins_alts o alts)

  pub with_origins_all : (ℕ → TermTree) → Terms → Terms
  with_origins_all o no_terms = no_terms
  with_origins_all o (term_and e es) = term_and (with_origins o e) (with_origins_all o es)

  pub with_origins_group : (ℕ → TermTree) → Group → Group
  with_origins_group o no_bindings = no_bindings
  with_origins_group o (bind t e g) = bind t (with_origins o e) (with_origins_group o g)

  pub with_origins_alts : (ℕ → TermTree) → Alts → Alts
  with_origins_alts o no_alts = no_alts
  with_origins_alts o (alt q e more) = alt q (with_origins o e) (with_origins_alts o more)

-- the origin of each made definition; of a number that none has, that number's made definition
abbrev pub origin_at : Origins → ℕ → TermTree
origin_at o m = unwrap_or (option_map (λ (it : MadeOf). it.origin) (slice_get o.made m)) (made m)

-- a term with every made definition in it replaced by its origin
abbrev pub origin_of : Origins → TermTree → TermTree
origin_of o e = with_origins (origin_at o) e

-- no made definition occurs: whatever is put for them, the term is as it was
abbrev pub HoldsNoMade : TermTree → Type 0
HoldsNoMade e = (o : ℕ → TermTree) → with_origins o e ≡ e

-- a term on so many variables, the last of which has this number
abbrev pub on_variables : TermTree → ℕ → ℕ → TermTree
on_variables e j zero = e
on_variables e j (suc n) = app (on_variables e (suc j) n) (var j)

-- a term under a lambda for each of these types
abbrev pub under_each : List TypeTree → TermTree → TermTree
under_each [] e = e
under_each (a ∷ args) e = lam a (under_each args e)

-- `\x1 .. \xn . e x1 .. xn`, with variables of these types
abbrev pub eta_expanded : List TypeTree → TermTree → TermTree
eta_expanded args e = under_each args (on_variables (shift e 0 (length args)) 0 (length args))
