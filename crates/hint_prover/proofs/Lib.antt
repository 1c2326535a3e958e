pub mod Equations
pub mod RuleParts
pub mod Stacks
pub mod StartLists
pub mod Conditions
