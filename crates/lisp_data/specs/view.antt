pub mod Codes
pub mod Automaton
pub mod AtomView
pub mod ValueView
pub mod ValueFalls
pub mod FormView
