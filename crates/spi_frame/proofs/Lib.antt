pub mod FramerLaws
