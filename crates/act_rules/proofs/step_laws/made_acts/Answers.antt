use Rattle.act_rules.proofs.Made.{made_acts}
use Rattle.act_rules.proofs.step_laws.made_acts.Goals as goal

pub returns : goal.returns
returns c = made_acts (record {
  type_beta = c.type_beta_acts.ensures;
  beta = c.beta_acts.ensures;
  let_app = c.app_let_acts.ensures.terms;
  let_type_app = c.app_let_acts.ensures.types;
  case_app = c.app_case_acts.ensures.terms;
  case_type_app = c.app_case_acts.ensures.types;
  case_con = c.known_case_acts.ensures.constructors;
  case_lit = c.known_case_acts.ensures.literals;
  case_default = c.known_case_acts.ensures.defaults;
  case_let = c.case_let_acts.ensures;
  case_case = c.case_case_acts.ensures;
  projections = c.projections_act.ensures;
  prim_let = c.prim_let_acts.ensures;
  prim_case = c.prim_case_acts.ensures;
  let_in_let = c.joined_lets_act.ensures.bodies;
  let_in_side = c.joined_lets_act.ensures.sides;
  dead = c.dead_acts.ensures;
  inline = c.inline_acts.ensures;
})
