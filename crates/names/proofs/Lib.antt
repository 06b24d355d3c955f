-- Laws of the steps noted.
pub mod StepLaws
pub mod PanelLaws
