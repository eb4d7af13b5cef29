mod LimitsOn
