pub mod MakePorts
