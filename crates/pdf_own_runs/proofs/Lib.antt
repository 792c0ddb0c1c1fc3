pub mod FiguresRun
pub mod WithOwn
