pub mod Loaded
pub mod Texts
pub mod Streams
pub mod Opened
pub mod Reports
pub mod Chosen
pub mod NotBegun
pub mod RanTo
pub mod Ran
pub mod RunClauses
pub mod Within
mod Committed
pub mod Tops
pub mod Said
mod Playing
mod Rehearsed
mod Drilled
mod Drilling
mod BenchNumbers
mod BenchLines
mod BenchSound
mod BenchFound
pub mod OnOpened
pub mod NoneBegun
pub mod OnStart
pub mod OnlyTouched
pub mod RefusedOpening
pub mod AfterOpening
pub mod SaidSlots
pub mod SaidAudit
