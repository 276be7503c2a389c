pub mod ProgramText
